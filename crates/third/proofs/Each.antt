-- The servers asked in their order.
use Rattle.std.proofs.Common.{◌≡◌, ℕ, zero, suc, ◌+◌, Bool, true, ◌&&◌, sym, ap, ◌∙◌, arith, add-one}
use Rattle.std.specs.List.{list_all, range_with_len}
use Rattle.quorums.specs.Sets.{Set}
use Rattle.third.specs.Unanimity.{each}

moved : (x y z : Bool) → ((x && y) && z) ≡ (y && (x && z))
moved x y z = grind arith

each_range : (a n : ℕ) (s : Set) → (list_all s (range_with_len a n) && each a s) ≡ each (a + n) s
each_range a zero s = ap (λ k. each k s) (omega arith)
each_range a (suc n) s =
    moved (s a) (list_all s (range_with_len (a + 1) n)) (each a s)
    ∙ ap (λ k. list_all s (range_with_len (a + 1) n) && each k s) (sym (add-one a))
    ∙ each_range (a + 1) n s ∙ ap (λ k. each k s) (omega arith)

last : (x : Bool) → x ≡ (x && true)
last x = grind arith

pub each_in_order : (n : ℕ) (s : Set) → list_all s (range_with_len 0 n) ≡ each n s
each_in_order n s = last (list_all s (range_with_len 0 n)) ∙ each_range 0 n s ∙ ap (λ k. each k s) (omega arith)
