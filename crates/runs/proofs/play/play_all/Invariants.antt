use Rattle.std.proofs.Common.{take}
use Rattle.delivery.specs.Memory.{SameLoans, contents}
use Rattle.register.specs.Calling.{kinds}
use Rattle.runs.specs.Playing.{Playing}
use Rattle.runs.proofs.play.play_all.Given as goal

abbrev pub invariant-loop-i : goal.invariant-loop-i
invariant-loop-i g l =
    let h = l.initial.register in
    record {
      loans : SameLoans l.initial.memory l.memory;
      played : Playing (kinds g.Q.QuorumSystem g.S.Timestamp g.V.Value h) (take l.i l.calls) h (contents l.initial.memory) l.initial.answers l.register (contents l.memory) l.answers;
    }
