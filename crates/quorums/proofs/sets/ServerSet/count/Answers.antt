use Rattle.std.proofs.Common.{ap, ◌∙◌, min, arith}
use lib.Bits.{bit_and, and_mask}
use lib.Count.{ones}
use Rattle.quorums.specs.Counts.{ones_tally}
use Rattle.quorums.proofs.Masks.{low_digits}
use Rattle.quorums.proofs.sets.ServerSet.count.Goals as goal

pub returns : goal.returns
returns c =
    let n = c.args.n in
    let mask = c.args.self.mask in
    ap (λ k. ones (bit_and mask k)) c.first.ensures.mask ∙ ap ones (and_mask mask (min n 16) ∙ low_digits mask n (omega arith)) ∙ ones_tally n mask
