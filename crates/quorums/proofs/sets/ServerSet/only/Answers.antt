use Rattle.std.proofs.Common.{ap, ◌∙◌}
use Rattle.std.proofs.lemmas.Nat.{one_shl}
use Rattle.quorums.specs.Sets.{bits}
use Rattle.quorums.proofs.Masks.{bits_one}
use Rattle.quorums.proofs.sets.ServerSet.only.Goals as goal

pub returns : goal.returns
returns c i = ap (λ m. bits m i) (one_shl c.args.server 16 c.requires) ∙ bits_one c.args.server i
