use Rattle.std.proofs.Common.{◌≡◌, ◌-◌, ◌*◌, ◌%◌, ◌^◌, min, ap, ◌∙◌, arith}
use mathlib.Core.Path.{fun_ext}
use Rattle.std.proofs.lemmas.Nat.{one_shl}
use Rattle.quorums.specs.Sets.{bits}
use Rattle.quorums.proofs.Masks.{bits_first}
use Rattle.quorums.proofs.sets.ServerSet.first.Goals as goal

pub returns : goal.returns
returns c =
    let some = min c.args.n 16 in
    let power : 1 * 2 ^ c.min.result % 2 ^ 32 ≡ 2 ^ some = one_shl c.min.result 32 (omega arith) ∙ ap (λ k. 2 ^ k) (omega arith) in
    record { mask = ap (λ k. k - 1) power; members = fun_ext (λ i. ap (λ k. bits (k - 1) i) power ∙ bits_first some i) }
