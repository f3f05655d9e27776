use mathlib.Core.Path.{fun_ext}
use Rattle.quorums.proofs.Masks.{bits_or}
use Rattle.quorums.proofs.sets.ServerSet.union.Goals as goal

pub returns : goal.returns
returns c =
    let each = bits_or c.args.self.mask c.args.other.mask in
    record { each = each; members = fun_ext each }
