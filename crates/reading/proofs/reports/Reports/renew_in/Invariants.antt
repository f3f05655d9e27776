use Rattle.std.proofs.Common.{◌≡◌, ℕ, ◌/◌, ◌%◌, ◌≤◌, ◌<◌, None, length, get_or}
use Rattle.quorums.specs.Sets.{members}
use Rattle.reading.specs.Reports.{Kept, cell, known, anew, renew_from}
use Rattle.reading.proofs.reports.Reports.renew_in.Given as goal

abbrev pub invariant-loop-i : goal.invariant-loop-i
invariant-loop-i g l =
    record {
      long : length l.slots ≡ g.row.ROOM;
      made :
          (k : ℕ) → k < l.i → get_or l.slots k None
          ≡ anew g.S.Timestamp.above (members l.fn.leading) (known g.S.Timestamp g.V.Value l.fn.self) (k / l.fn.self.n) (k % l.fn.self.n);
    }

abbrev pub invariant-loop-j : goal.invariant-loop-j
invariant-loop-j g l =
    record {
      kept : Kept l.fn.self l.self;
      cells :
          (x k : ℕ) → x < l.fn.self.n → k ≤ l.fn.self.n → cell l.fn.self.n l.self.entries.now x k
          ≡ renew_from (anew g.S.Timestamp.above (members l.fn.leading) (known g.S.Timestamp g.V.Value l.fn.self)) l.fn.self.n l.j (cell l.fn.self.n l.fn.self.entries.now) x k;
    }
