use Rattle.std.proofs.Common.{◌&&◌, ap, ◌∙◌}
use Rattle.reading.specs.Readings.{ahead}
use Rattle.reading.specs.Reports.{known}
use Rattle.reading.proofs.reports.Reports.is_leader.Goals as goal

pub returns-then-has_entered : goal.returns-then-has_entered
returns-then-has_entered g c =
    let fail_prone = g.Q.QuorumSystem.fail_prone c.args.system.now in
    let others = ahead g.S.Timestamp.above (known g.S.Timestamp g.V.Value c.args.self.now) c.args.server in
    c.is_fail_prone.ensures ∙ ap fail_prone c.ahead_of.ensures ∙ ap (λ t. t && fail_prone others) c.if-has_entered.ensures
