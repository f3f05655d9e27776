-- A queue that closes up over one place. Assumes nothing.
use Rattle.std.proofs.Common.{◌≡◌, ℕ, suc, ◌+◌, ◌-◌, ◌<◌, List, ◌++◌, take, drop, sym, ap, ◌∙◌, arith}
use Rattle.std.specs.List.{copy_within}
use Rattle.std.proofs.lemmas.List.{drop-take, take-take}
use Rattle.network.specs.Queues.{closed}

-- copying what stands behind the place down by one closes the queue up
pub closes_up : {M : Type 0} (xs : List M) (place len : ℕ) → place < len → copy_within xs (place + 1) len place ≡ closed xs place len
closes_up xs place len inside =
    let r = len - (place + 1) in
    let after : suc place ≡ place + 1 = omega arith in
    let whole : len ≡ place + 1 + r = omega (arith, inside) in
    let front : take place (take len xs) ≡ take place xs = take-take place len xs (omega (arith, inside)) in
    let middle : drop (place + 1) (take len xs) ≡ take r (drop (place + 1) xs) =
    ap (λ n. drop (place + 1) (take n xs)) whole ∙ drop-take (place + 1) r xs in
    let rest : len - 1 ≡ place + r = omega (arith, inside) in
    sym
    (ap (λ k. (take place (take len xs) ++ drop k (take len xs)) ++ drop (len - 1) xs) after
    ∙ ap (λ n. (take place (take len xs) ++ drop (place + 1) (take len xs)) ++ drop n xs) rest
    ∙ ap (λ l. (l ++ drop (place + 1) (take len xs)) ++ drop (place + r) xs) front
    ∙ ap (λ l. (take place xs ++ l) ++ drop (place + r) xs) middle)
