-- The reports of a client at the front of a longer memory, and memory in which all is blank.
use Rattle.std.proofs.Common.{◌≡◌, ℕ, ◌+◌, ◌*◌, ◌≤◌, Bool, true, ltb, leb, List, ◌++◌, length, get_or, take, drop, replicate, None, Option, ap, ◌∙◌, subst, inl, inr, arith}
use Rattle.std.proofs.lemmas.List.{length-take-le, get_or-take, get_or_append_left, drop-append-le, drop_all, length-replicate, get_or-replicate, get_or_past}
use Rattle.std.proofs.lemmas.Bool.{cases_lt, and_parts, leb-true}
use Rattle.reading.specs.Readings.{rules, unread, heard, decide}
use Rattle.reading.specs.Reports.{Report, cell, view}
use Rattle.reading.specs.Hearing.{Heard, enough_memory, after_value, decided}
use Rattle.reading.proofs.Cells.{inside}
use Rattle.reading.proofs.Views.{shown_same}
use Rattle.reading.proofs.Enters.{unread_all}

-- what the test of the memory says
pub room_enough : {R : Type 0} (n : ℕ) (p : List R) (b : ℕ) → enough_memory n p b ≡ true → n * (n + 1) ≤ length p
room_enough n p b e = leb-true (n * (n + 1)) (length p) (and_parts (leb (n * (n + 1)) (length p)) (ltb b n) e).0

-- a blank entry stands at each place, past the end too
get_blank : {R : Type 0} (m k : ℕ) (d : R) → get_or (replicate m d) k d ≡ d
get_blank m k d =
    let long = length-replicate m d in
    elim (cases_lt k m) [ inl l ↦ get_or-replicate m k d d l | inr l ↦ get_or_past (replicate m d) k d (omega arith) ]

module _ {S V : Type 0} (above : S → S → Bool) where
  -- blank memory shows that nothing is known
  pub view_blank : (lowest : S) (initial : V) (n m : ℕ) → view above (lowest, initial) n (replicate m None) ≡ unread lowest initial
  view_blank lowest initial n m =
      shown_same above (lowest, initial) n (cell n (replicate m None)) (λ x k. None) (λ x k l h. get_blank m (x * (n + 1) + k) None) ∙ unread_all above lowest initial n

  module _ (d : S × V) (n : ℕ) where
    -- only the first n * (n + 1) entries are shown
    pub view_take : (p : List (Report S V)) → n * (n + 1) ≤ length p → view above d n (take (n * (n + 1)) p) ≡ view above d n p
    view_take p room =
        let long = length-take-le (n * (n + 1)) p room in
        let front : n * (n + 1) ≤ length (take (n * (n + 1)) p) = omega arith in
        shown_same above d n (cell n (take (n * (n + 1)) p)) (cell n p)
        (λ x k l h. get_or-take (n * (n + 1)) p (x * (n + 1) + k) None (omega (arith, long, inside n (take (n * (n + 1)) p) x k front l h)))

    pub view_append : (y z : List (Report S V)) → n * (n + 1) ≤ length y → view above d n (y ++ z) ≡ view above d n y
    view_append y z room = shown_same above d n (cell n (y ++ z)) (cell n y) (λ x k l h. get_or_append_left y z None (x * (n + 1) + k) (inside n y x k room l h))

module _ {S V : Type 0} (above : S → S → Bool) (same : V → V → Bool) (quorum fail_prone : (ℕ → Bool) → Bool) (d : S × V) where
  -- a VALUE that is heard within the reports is heard by the whole memory
  pub heard_whole : (n z k : ℕ) (p y : List (Report S V)) (b : ℕ) (t : S) (v : V) (r : Option (S × V)) → n ≡ z → k ≡ n * (n + 1) → n * (n + 1) ≤ length p → length y ≡ k
      → view above d n y ≡ after_value (rules n quorum fail_prone above same) d (take k p) b t v
      → r ≡ decided (rules n quorum fail_prone above same) d (take k p) b t v
      → Heard (rules z quorum fail_prone above same) d p b t v r (y ++ drop k p)
  heard_whole n z k p y b t v r nz kz room long after answer =
      let size = n * (n + 1) in
      let K = rules n quorum fail_prone above same in
      let was : view above d n (take k p) ≡ view above d n p = ap (λ i. view above d n (take i p)) kz ∙ view_take above d n p room in
      let own : n * (n + 1) ≤ length y = omega arith in
      let Q : ℕ → Type 0 = λ i. Heard (rules i quorum fail_prone above same) d p b t v r (y ++ drop k p) in
      subst Q nz
      (record {
        after = view_append above d n y (drop k p) own ∙ after ∙ ap (λ q. heard K q b t v) was;
        answer = answer ∙ ap (λ q. decide K (heard K q b t v) (heard K q b t v).watched) was;
        rest =
            drop-append-le size y (drop k p) (omega arith) ∙ ap (λ xs. xs ++ drop k p) (drop_all size y (omega arith)) ∙ ap (λ i. drop i p) kz;
      })
