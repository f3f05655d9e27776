use Rattle.std.proofs.Common.{◌≡◌, ℕ, ◌≤◌}
use Rattle.reading.specs.Reports.{Kept, cell, note_to}
use Rattle.reading.proofs.reports.Reports.note.Given as goal

abbrev pub invariant-loop-slot : goal.invariant-loop-slot
invariant-loop-slot g l =
    record {
      kept : Kept l.fn.self l.self;
      cells :
          (x k : ℕ) → k ≤ l.fn.self.n → cell l.fn.self.n l.self.entries.now x k
          ≡ note_to g.S.Timestamp.above l.slot (cell l.fn.self.n l.fn.self.entries.now) l.server l.pair.0 l.pair.1 x k;
    }
