use Rattle.std.proofs.Common.{◌≡◌, ℕ, zero, suc, ◌<◌, not, ◌&&◌, ◌||◌, nat_lt, min, refl, sym, ap, ap₂, ◌∙◌, arith}
use Rattle.std.proofs.lemmas.Bool.{lt-ltb, le-ltb}
use Rattle.std.proofs.lemmas.Bool.Decides.{nat_tests}
use Rattle.quorums.specs.Sets.{Set, members, below, all, part_of}
use Rattle.quorums.proofs.by_list.is_past.Goals as goal

all_same : (n : ℕ) (a b : Set) → ((i : ℕ) → i < n → a i ≡ b i) → all n a ≡ all n b
unfolding all
all_same zero a b h = refl
all_same (suc n) a b h = ap₂ ◌&&◌ (h 0 (omega arith)) (all_same n (λ i. a (suc i)) (λ i. b (suc i)) (λ i l. h (suc i) (omega arith)))

nat_lt_suc : (i n : ℕ) → nat_lt i n ≡ nat_lt (suc i) (suc n)
nat_lt_suc i n = grind (arith, nat_tests)

below_lt : (n i : ℕ) → below n i ≡ nat_lt i n
below_lt zero i = sym (le-ltb i 0 (omega arith))
below_lt (suc n) zero = sym (lt-ltb 0 (suc n) (omega arith))
below_lt (suc n) (suc i) = below_lt n i ∙ nat_lt_suc i n

lt_min : (n i : ℕ) → i < 16 → nat_lt i (min n 16) ≡ nat_lt i n
lt_min n i h = grind (arith, nat_tests)

below_min : (n i : ℕ) → i < 16 → below (min n 16) i ≡ below n i
below_min n i h = below_lt (min n 16) i ∙ lt_min n i h ∙ sym (below_lt n i)

pub returns : goal.returns
returns c =
    let n = c.args.n in
    let s = members c.args.set in
    let first = c.first.ensures.members in
    ap not (c.is_part_of.ensures ∙ ap (part_of 16 s) first ∙ all_same 16 _ _ (λ i l. ap (λ b. not (s i) || b) (below_min n i l)))
