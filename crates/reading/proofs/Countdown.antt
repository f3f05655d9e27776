-- The servers from the last to the first, as a range gives them in reverse.
use Rattle.std.proofs.Common.{inl, inr, ◌≤◌, ◌≡◌, ℕ, zero, suc, ◌+◌, ◌-◌, List, [], ◌∷◌, length, Bool, true, false, ltb, Option, None, Some, cond, refl, sym, ap, ap₂, ◌∙◌, arith, subst}
use Rattle.std.specs.List.{find, fold}
use Rattle.std.specs.Option.{option_and_then}
use Rattle.std.proofs.lemmas.Bool.{cases_lt, cond-true, cond-false, lt-ltb, le-ltb}
use Rattle.std.proofs.lemmas.Iterator.Adapters.{option_map_id}
use Rattle.std.specs.Borrow.{Bor}
use Rattle.std.specs.Fn.{Mut, CalledAt}
use Rattle.std.specs.Iterator.{AlwaysYields, FindsItem}
use Rattle.std.proofs.lemmas.Iterator.Search.{find_from_yields_List}
use Rattle.std.specs.Iterator.Adapters.{rev_steps, rev_source}
use Rattle.std.proofs.iter.Yields.{listed}
use Rattle.std.proofs.iter.runs.Sources.{nat_range_steps_back}
use Rattle.std.proofs.lemmas.Iterator.{YieldsList}
use Rattle.std.specs.declared.ops.Range.{Range}
use Rattle.std.specs.declared.iter.Rev.{Rev}
use Rattle.reading.specs.Readings.{Reading, Rules, backers, value_of, backed}
use Rattle.reading.specs.Reports.{Grid, timestamp_of, content, watches, kept, slots}
use Rattle.reading.specs.Deciding.{passes, bettered}
use Rattle.reading.proofs.Decides.{decide_from, decide_push}

-- the n numbers from a on, the last first
abbrev pub countdown : ℕ → ℕ → List ℕ
countdown a zero = []
countdown a (suc n) = (a + n) ∷ countdown a n

counted : (a b n m x : ℕ) → a ≡ b → n ≡ suc m → x ≡ a + m → countdown a n ≡ x ∷ countdown b m
counted a b n m x e f g = ap (λ k. countdown a k) f ∙ ap₂ (λ y c. y ∷ countdown c m) (sym g) e

none_left : (a n : ℕ) → n ≡ 0 → length (countdown a n) ≡ 0
none_left a n e = ap (λ k. length (countdown a k)) e

-- what a call of next on a range in reverse may give
abbrev pub down_steps : Rev (Range ℕ) → Option ℕ → Rev (Range ℕ) → Type 0
down_steps = rev_steps nat_range_steps_back

-- it gives them
all_yielded : (s : Rev (Range ℕ)) → AlwaysYields down_steps (λ x. x) s (countdown (rev_source s).start ((rev_source s).end - (rev_source s).start))
all_yielded =
    listed down_steps (λ x. x) (λ s. countdown (rev_source s).start ((rev_source s).end - (rev_source s).start))
    (λ s t p. none_left (rev_source s).start _ p.1.0)
    (λ s x t p. counted (rev_source s).start (rev_source t).start _ _ x (sym p.0) (omega (arith, p.0, p.1.0, p.1.1, p.1.2)) (omega (arith, p.0, p.1.0, p.1.1, p.1.2)))

pub countdown_yields : {s : Rev (Range ℕ)} (n : ℕ) → rev_source s ≡ record { start = 0; end = n } → YieldsList down_steps (λ x. x) s (countdown 0 n)
countdown_yields {s} n e =
    let all : n - 0 ≡ n = omega arith in
    record { runs = subst (λ k. AlwaysYields down_steps (λ x. x) s (countdown 0 k)) all (subst (λ (r : Range ℕ). AlwaysYields down_steps (λ x. x) s (countdown r.start (r.end - r.start))) e (all_yielded s)) }

-- what find returns over them
pub found_down : {F : Type 0} {g : Mut F (Bor ℕ × Unit {0}) Bool} {s : Rev (Range ℕ)} (n : ℕ) (test : ℕ → Bool) (u : Rev (Range ℕ)) (f : F) (r : Option ℕ) → rev_source s ≡ record { start = 0; end = n }
    → FindsItem down_steps g s f r u → ((x : ℕ) (b : Bool) (q : F) → CalledAt g f x b q → (q ≡ f) × (b ≡ test x)) → r ≡ find test (countdown 0 n)
found_down n test u f r source ran computes = sym (option_map_id r) ∙ find_from_yields_List test u f r ran (countdown_yields n source) computes

-- ---- the last watched slot

picked : {A : Type 0} (w : Bool) (f : ℕ → Option A) (x : ℕ) (r : Option ℕ) → cond w (f x) (option_and_then f r) ≡ option_and_then f (cond w (Some x) r)
picked true f x r = refl
picked false f x r = refl

module _ {S V : Type 0} (above : S → S → Bool) (g : Grid S V) (b : ℕ) (t : S) where
  kept_last : (n : ℕ) → kept above g b t n ≡ option_and_then (λ j. content (g b j)) (find (watches above g t) (countdown 0 n))
  kept_last zero = refl
  kept_last (suc n) =
      let all : n ≡ 0 + n = omega arith in
      let rest = find (watches above g t) (countdown 0 n) in
      ap (λ k. cond (watches above g t n) (content (g b n)) k) (kept_last n) ∙ picked (watches above g t n) (λ j. content (g b j)) n rest
      ∙ ap (λ i. option_and_then (λ j. content (g b j)) (cond (watches above g t i) (Some i) rest)) all

  -- of a server that reports nothing in any slot
  nothing : (r : Option ℕ) → ((j : ℕ) → g b j ≡ None) → option_and_then (λ j. content (g b j)) r ≡ None
  nothing None past = refl
  nothing (Some j) past = ap content (past j)

  -- the slot that was found has the evidence; servers from n on report nothing
  pub kept_found : (n : ℕ) (r : Option ℕ) → (n ≤ b → (j : ℕ) → g b j ≡ None) → r ≡ find (watches above g t) (countdown 0 n)
      → cond (ltb b n) (kept above g b t n) None ≡ option_and_then (λ j. content (g b j)) r
  kept_found n r past found =
      elim (cases_lt b n) [
        | inl l ↦ cond-true (ltb b n) (kept above g b t n) None (lt-ltb b n l) ∙ kept_last n
            ∙ ap (λ o. option_and_then (λ j. content (g b j)) o) (sym found)
        | inr l ↦ cond-false (ltb b n) (kept above g b t n) None (le-ltb b n l) ∙ sym (nothing r (past l))
      ]

-- ---- the last server that shares its evidence with a quorum

chosen : {V : Type 0} (test : V → Bool) (o rest : Option V) → value_of test o rest ≡ cond (passes test o) o rest
chosen test None rest = refl
chosen test (Some v) rest = refl

module _ {S V : Type 0} (K : Rules S V) (r : Reading S V) (t : S) where
  abbrev pub shares : ℕ → Bool
  shares b = passes (λ v. K.quorum (backers K.same r t v)) (r.evidence b t)

  pub backed_last : (n : ℕ) → backed K r t n ≡ option_and_then (λ b. r.evidence b t) (find shares (countdown 0 n))
  backed_last zero = refl
  backed_last (suc n) =
      let all : n ≡ 0 + n = omega arith in
      let rest = find shares (countdown 0 n) in
      chosen (λ v. K.quorum (backers K.same r t v)) (r.evidence n t) (backed K r t n)
      ∙ ap (λ k. cond (shares n) (r.evidence n t) k) (backed_last n) ∙ picked (shares n) (λ b. r.evidence b t) n rest
      ∙ ap (λ i. option_and_then (λ b. r.evidence b t) (cond (shares i) (Some i) rest)) all

-- ---- a decision slot by slot, the last first
module _ {S V : Type 0} (K : Rules S V) (r : Reading S V) (g : Grid S V) where
  pub fold_decide : (n : ℕ) (o : Option (S × V)) → fold (λ p j. bettered K r (timestamp_of (g j j)) p) o (countdown 0 n) ≡ decide_from K r o (slots g n)
  fold_decide zero o = refl
  fold_decide (suc n) o =
      let all : 0 + n ≡ n = omega arith in
      ap (λ i. fold (λ p j. bettered K r (timestamp_of (g j j)) p) (bettered K r (timestamp_of (g i i)) o) (countdown 0 n)) all
      ∙ fold_decide n (bettered K r (timestamp_of (g n n)) o) ∙ sym (decide_push K r o (slots g n) (timestamp_of (g n n)))
