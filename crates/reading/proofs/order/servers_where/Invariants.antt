use Rattle.quorums.specs.Sets.{members}
use Rattle.reading.specs.Choosing.{Tested}
use Rattle.reading.proofs.order.servers_where.Given as goal

abbrev pub invariant-loop-server : goal.invariant-loop-server
invariant-loop-server g l = Tested (goal.F-post g l.holds) l.server (members l.set)
