-- A set that is made server by server, by a test of each.
use Rattle.std.proofs.Common.{◌≡◌, ℕ, ◌+◌, ◌<◌, ◌≤◌, min, Bool, true, false, ◌||◌, ◌&&◌, ◌==◌, nat_lt, sym, ap, ◌∙◌, subst, inl, inr, arith}
use mathlib.Core.Path.{fun_ext}
use Rattle.std.proofs.lemmas.Bool.{cases_lt}
use Rattle.std.proofs.lemmas.Bool.Decides.{nat_tests}
use Rattle.quorums.specs.Sets.{Set, none}
use Rattle.reading.specs.Choosing.{Tested, Tells}

earlier : (b r : Bool) (i n : ℕ) → i < n → (b || (i == n && (nat_lt n 16 && r))) ≡ b
earlier b r i n l = grind (arith, nat_tests)

this : (b r : Bool) (n : ℕ) → n < 16 → b ≡ false → (b || (n == n && (nat_lt n 16 && r))) ≡ r
this b r n l e = grind (arith, nat_tests)

later : (b r : Bool) (i n : ℕ) → min (n + 1) 16 ≤ i → b ≡ false → (b || (i == n && (nat_lt n 16 && r))) ≡ false
later b r i n l e = grind (arith, nat_tests)

-- where the test holds, server n is put in; where it does not, no server is
pub put : (b q l r : Bool) → r ≡ true → (b || (q && l)) ≡ (b || (q && (l && r)))
put b q l r e = grind arith

pub left_out : (b q l r : Bool) → r ≡ false → b ≡ (b || (q && (l && r)))
left_out b q l r e = grind arith

module _ (test : ℕ → Bool → Type 0) where
  pub tested_none : (s : Set) → s ≡ none → Tested test 0 s
  tested_none s e = (λ i l. absurd (omega (arith, l)), λ i l. ap (λ f. f i) e)

  -- server n is put into the set, or not, as the test says
  pub tested_more : (n : ℕ) (r : Bool) (s t : Set) → Tested test n s → test n r → ((i : ℕ) → t i ≡ (s i || (i == n && (nat_lt n 16 && r)))) → Tested test (n + 1) t
  tested_more n r s t h says e = (
    λ i l. elim (cases_lt i n) [
      | inl below ↦ subst (test i) (sym (e i ∙ earlier (s i) r i n below)) (h.0 i (omega (arith, l, below)))
      | inr from ↦
          let same : n ≡ i = omega (arith, l, from) in
          subst (λ k. test k (t k)) same (subst (test n) (sym (e n ∙ this (s n) r n (omega (arith, l, from)) (h.1 n (omega arith)))) says)
    ],
    λ i l. e i ∙ later (s i) r i n l (h.1 i (omega (arith, l))),
  )

  -- one set at most is told by the test
  pub tested_exact : (n : ℕ) (s p : Set) → Tested test n s → Tells test n p → s ≡ p
  tested_exact n s p h t =
      fun_ext (λ i. elim (cases_lt i (min n 16)) [ inl l ↦ t.0 i (s i) (omega (arith, l)) (h.0 i l) | inr l ↦ h.1 i l ∙ sym (t.1 i l) ])
