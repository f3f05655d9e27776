-- Evidence that is read and written slot by slot.
use Rattle.std.proofs.Common.{◌≡◌, ℕ, zero, suc, ◌+◌, ◌<◌, ◌≤◌, Bool, true, false, cond, not, ◌&&◌, ◌||◌, eqb, ltb, List, [], ◌∷◌, ◌++◌, Some, None, Option, sym, refl, ap, ◌∙◌, inl, inr, arith}
use Rattle.std.proofs.lemmas.Bool.{cases_Bool, and_parts, eqb-true, cond-true, cond-false, not-true, and_left, and_right, and_from, both_ways, false≢true, not_from_false}
use Rattle.std.proofs.lemmas.Bool.Decides.{nat_tests}
use Rattle.std.specs.Prelude.{is_some}
use Rattle.std.specs.Option.{unwrap_or}
use Rattle.timestamps.specs.Laws.{TimestampLaws}
use Rattle.reading.specs.Readings.{level, among, noted}
use Rattle.reading.specs.Reports.{Grid, timestamp_of, content, listed, slots, equals, watches, kept, shown, put_at, note_to}
use Rattle.reading.proofs.Views.{same_reading, slots_same, kept_same}

-- ---- one slot more

upto_yes : {A : Type 0} (b c j k : ℕ) (h : ℕ → Bool) (x y : A) → h j ≡ true
    → cond (eqb b c && eqb j k) x (cond (eqb b c && (ltb k j && h k)) x y) ≡ cond (eqb b c && (ltb k (j + 1) && h k)) x y
upto_yes b c j k h x y e = grind (arith, nat_tests)

upto_no : {A : Type 0} (b c j k : ℕ) (h : ℕ → Bool) (x y : A) → h j ≡ false
    → cond (eqb b c && (ltb k j && h k)) x y ≡ cond (eqb b c && (ltb k (j + 1) && h k)) x y
upto_no b c j k h x y e = grind (arith, nat_tests)

module _ {S V : Type 0} (above : S → S → Bool) (g : Grid S V) (b : ℕ) (s : S) (v : V) where
  -- the slot at hand is not yet written
  pub note_fresh : (j : ℕ) → note_to above j g b s v j j ≡ g j j
  note_fresh j = cond-false (eqb b j && (ltb j j && watches above g s j)) (Some (s, v)) (g j j) (grind (arith, nat_tests))

  pub note_yes : (j : ℕ) (h : Grid S V) (c k : ℕ) → watches above g s j ≡ true → h c k ≡ note_to above j g b s v c k
      → put_at h b j (Some (s, v)) c k ≡ note_to above (j + 1) g b s v c k
  note_yes j h c k e i = ap (λ x. cond (eqb b c && eqb j k) (Some (s, v)) x) i ∙ upto_yes b c j k (watches above g s) (Some (s, v)) (g c k) e

  pub note_no : (j c k : ℕ) → watches above g s j ≡ false → note_to above j g b s v c k ≡ note_to above (j + 1) g b s v c k
  note_no j c k e = upto_no b c j k (watches above g s) (Some (s, v)) (g c k) e

-- ---- all slots

module _ {S : Type 0} (above : S → S → Bool) {owner : S → ℕ} {low : S} {successor : ℕ → S → S → Option S} (ordered : TimestampLaws above owner low successor) where
  -- timestamps of which neither is above the other are equal
  pub level_equal : (a b : S) → level above a b ≡ true → a ≡ b
  level_equal a b e =
      let p = and_parts (not (above a b)) (not (above b a)) e in
      ordered.total a b (not-true (above a b) p.0) (not-true (above b a) p.1)

  pub level_same : (a : S) → level above a a ≡ true
  level_same a = let n = not_from_false (above a a) (ordered.irreflexive a) in and_from (not (above a a)) (not (above a a)) n n

  -- what is equal to a timestamp is that timestamp
  pub equals_some : (s : S) (o : Option S) → equals above s o ≡ true → Some s ≡ o
  equals_some s None e = absurd (false≢true e)
  equals_some s (Some t) e = ap (λ x. Some x) (level_equal s t e)

-- one timestamp more
pub among_push : {S : Type 0} (above : S → S → Bool) (s : S) (xs : List S) (o : Option S) → among above s (xs ++ listed o) ≡ (among above s xs || equals above s o)
among_push above s [] None = refl
among_push above s [] (Some t) = grind (arith, nat_tests)
among_push above s (x ∷ xs) o = ap (λ y. level above s x || y) (among_push above s xs o) ∙ grind (arith, nat_tests)

module _ {S V : Type 0} (above : S → S → Bool) {owner : S → ℕ} {low : S} {successor : ℕ → S → S → Option S} (ordered : TimestampLaws above owner low successor) (d : S × V) (n : ℕ) (g : Grid S V) (b : ℕ) (s : S) (v : V) (hb : b < n) where
  abbrev h : Grid S V
  h = note_to above n g b s v

  abbrev test : ℕ → ℕ → Bool
  test c k = eqb b c && (ltb k n && watches above g s k)

  other : (c k : ℕ) → test c k ≡ false → h c k ≡ g c k
  other c k e = cond-false (test c k) (Some (s, v)) (g c k) e

  written : (c k : ℕ) → test c k ≡ true → h c k ≡ Some (s, v)
  written c k e = cond-true (test c k) (Some (s, v)) (g c k) e

  -- what a slot is watched for stays
  time_same : (j : ℕ) → timestamp_of (h j j) ≡ timestamp_of (g j j)
  time_same j =
      elim (cases_Bool (test j j)) [
        | inl e ↦
            let p = and_parts (ltb j n) (watches above g s j) (and_parts (eqb b j) (ltb j n && watches above g s j) e).1 in
            ap timestamp_of (written j j e) ∙ equals_some above ordered s (timestamp_of (g j j)) p.1
        | inr e ↦ ap timestamp_of (other j j e)
      ]

  watches_same : (t : S) (j : ℕ) → watches above h t j ≡ watches above g t j
  watches_same t j = ap (equals above t) (time_same j)

  abbrev take_in : S → ℕ → Bool
  take_in t i = level above s t && among above s (slots g i)

  pushed : (t : S) (i : ℕ) → take_in t (suc i) ≡ (level above s t && (among above s (slots g i) || watches above g s i))
  pushed t i = ap (λ x. level above s t && x) (among_push above s (slots g i) (timestamp_of (g i i)))

  -- a slot that is watched for another timestamp is not watched for this one
  missed : (t : S) (i : ℕ) → level above s t ≡ false → watches above g t i ≡ true → watches above g s i ≡ false
  missed t i e f =
      elim (cases_Bool (watches above g s i)) [
        | inl q ↦
            let a = equals_some above ordered s (timestamp_of (g i i)) q in
            let z = equals_some above ordered t (timestamp_of (g i i)) f in
            absurd (both_ways (level above s t) e (ap (λ x. equals above s x) (z ∙ sym a) ∙ level_same above ordered s))
        | inr q ↦ q
      ]

  kept_content : (t : S) (i : ℕ) → i ≤ n → kept above h b t i ≡ cond (take_in t i) (Some v) (kept above g b t i)
  kept_content t zero l = sym (cond-false (level above s t && false) (Some v) None (and_right (level above s t) false refl))
  kept_content t (suc i) l =
      let here : i < n = omega arith in
      let ih = kept_content t i (omega arith) in
      let more = pushed t i in
      let watched = watches_same t i in
      elim (cases_Bool (level above s t)) [
        | inl e ↦ let st : s ≡ t = level_equal above ordered s t e in let hits : watches above g s i ≡ watches above g t i = ap (λ x. watches above g x i) st in grind (arith, nat_tests)
        | inr e ↦ let miss = missed t i e in grind (arith, nat_tests, miss)
      ]

  late_same : (c : ℕ) → h c n ≡ g c n
  late_same c = grind (arith, nat_tests)

  pub note_all : shown above d n h ≡ noted above (shown above d n g) b s v
  note_all =
      same_reading (shown above d n h) (noted above (shown above d n g) b s v)
      (λ c. ap (λ x. is_some (cond (ltb c n) x None)) (late_same c))
      (λ c. ap (λ x. (unwrap_or (cond (ltb c n) x None) d).0) (late_same c))
      (λ c. ap (λ x. (unwrap_or (cond (ltb c n) x None) d).1) (late_same c))
      (slots_same h g n (λ j l. time_same j))
      (λ c t. elim (cases_Bool (eqb b c)) [
        | inl e ↦ let bc : b ≡ c = eqb-true b c e in let own = kept_content t n (omega arith) in grind (arith, nat_tests)
        | inr e ↦
            let kept_other : kept above h c t n ≡ kept above g c t n =
            kept_same above h g c t n (λ j m. watches_same t j) (λ j m. ap content (other c j (and_left (eqb b c) (ltb j n && watches above g s j) e))) in
            grind (arith, nat_tests)
      ])
