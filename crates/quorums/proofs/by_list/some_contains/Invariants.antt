use Rattle.std.proofs.Common.{◌≡◌, drop}
use Rattle.quorums.specs.Sets.{members}
use Rattle.quorums.specs.Lists.{contained}
use Rattle.quorums.proofs.by_list.some_contains.Given as goal

abbrev pub invariant-loop-listed : goal.invariant-loop-listed
invariant-loop-listed l = contained l.n (drop l.listed-index l.sets) (members l.set) ≡ contained l.n l.sets (members l.set)
