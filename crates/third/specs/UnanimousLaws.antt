-- The laws of the unanimous system, and what one server more or less means for all of them. Assumes nothing.
use Rattle.std.specs.Prelude.{◌≡◌, ℕ, zero, suc, ◌+◌, ◌<◌, ◌≤◌, Bool, true, false, not, ◌≢◌, refl}
use Rattle.std.proofs.Common.{ap, subst, ◌∙◌, inl, inr, add-one, arith}
use Rattle.std.proofs.lemmas.Bool.{and_parts, and_from, both_ways, cases_lt}
use Rattle.quorums.specs.Sets.{Set, outside}
use Rattle.quorums.specs.Laws.{QuorumLaws}
use Rattle.third.specs.Unanimity.{each}

each_at : (n : ℕ) (s : Set) → each n s ≡ true → (i : ℕ) → i < n → s i ≡ true
each_at zero s e i h = absurd (omega arith)
each_at (suc n) s e i h =
    let parts = and_parts (s n) (each n s) e in
    elim (cases_lt i n) [
      | inl l ↦ each_at n s parts.1 i l
      | inr l ↦ let same : n ≡ i = omega arith in subst (λ k. s k ≡ true) same parts.0
    ]

each_from : (n : ℕ) (s : Set) → ((i : ℕ) → i < n → s i ≡ true) → each n s ≡ true
each_from zero s h = refl
each_from (suc n) s h = and_from (s n) (each n s) (h n (omega arith)) (each_from n s (λ i l. h i (omega arith)))

not-true : (b : Bool) → (b ≢ true) → b ≡ false
not-true true h = absurd (h refl)
not-true false h = refl

-- a server that is not in the set
pub each_lacks : (n i : ℕ) (s : Set) → i < n → s i ≡ false → each n s ≡ false
each_lacks n i s l e = not-true (each n s) (λ t. both_ways (s i) e (each_at n s t i l))

-- one server more that is in the set
pub each_more : (n : ℕ) (s : Set) → each n s ≡ true → s n ≡ true → each (n + 1) s ≡ true
each_more n s e h = ap (λ k. each k s) (add-one n) ∙ and_from (s n) (each n s) h e

fewer : (x y : Bool) → (x ≡ true → y ≡ true) → not y ≡ true → not x ≡ true
fewer x y h e = grind arith

none_of : (x : Bool) → not x ≡ true → x ≡ false
none_of x e = grind arith

-- the unanimous system of n servers keeps the laws
pub unanimous_laws : (n : ℕ) → 0 < n → n ≤ 16 → QuorumLaws n (each n) (λ s. each n (outside s))
unanimous_laws n some few = record {
  some_server = some;
  few_servers = few;
  none_fail_prone = each_from n _ (λ i l. refl);
  part_fail_prone = λ a b p e. each_from n (outside a) (λ i l. fewer (a i) (b i) (p i l) (each_at n (outside b) e i l));
  larger_quorum = λ a b p e. each_from n b (λ i l. p i l (each_at n a e i l));
  quorums_meet = λ a b f ea eb ef. (0, some, each_at n a ea 0 some, each_at n b eb 0 some, none_of (f 0) (each_at n (outside f) ef 0 some));
  rest_quorum = λ f e. e;
}
