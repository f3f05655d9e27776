use Rattle.std.proofs.Common.{◌≡◌, drop}
use Rattle.quorums.specs.Sets.{members}
use Rattle.quorums.specs.Lists.{completed}
use Rattle.quorums.proofs.by_list.some_completes.Given as goal

abbrev pub invariant-loop-listed : goal.invariant-loop-listed
invariant-loop-listed l = completed l.n (drop l.listed-index l.sets) (members l.set) ≡ completed l.n l.sets (members l.set)
