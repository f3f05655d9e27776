-- The slots after a server has entered.
use Rattle.std.proofs.Common.{◌≡◌, ℕ, zero, suc, ◌+◌, ◌*◌, ◌/◌, ◌%◌, ◌<◌, ◌≤◌, Bool, true, false, cond, ◌&&◌, ◌||◌, ltb, leb, List, [], ◌∷◌, ◌++◌, Some, None, Option, sym, refl, ap, ◌∙◌, inl, inr, mod-lt, arith}
use Rattle.std.proofs.lemmas.Nat.{mul-add-lt, div-mul-add, mod-mul-add, div_below, div-add-mod'}
use Rattle.std.proofs.lemmas.Bool.Decides.{nat_tests}
use Rattle.std.proofs.lemmas.Bool.{cases_lt, cases_Bool, and_parts, cond-true, cond-false, lt-ltb, le-ltb, ltb-false}
use Rattle.std.specs.Prelude.{is_some}
use Rattle.std.specs.Option.{option_map, unwrap_or}
use Rattle.timestamps.specs.Laws.{TimestampLaws}
use Rattle.reading.specs.Readings.{Reading, Rules, level, among, leads, leaders, rewatched, unread}
use Rattle.reading.specs.Reports.{Report, Grid, content, slots, watches, kept, shown, put_at, has, fresh, anew, renew_from}
use Rattle.reading.proofs.Views.{same_reading}
use Rattle.reading.proofs.Notes.{level_equal, level_same, among_push}

-- ---- entry by entry

-- past another place than i
beyond : (i m : ℕ) → (m ≡ i → ⊥) → leb (i + 1) m ≡ leb i m
beyond i m ne = grind (arith, nat_tests)

pub positive : (n i : ℕ) → i < n * n → 0 < n
positive zero i l = absurd (omega arith)
positive (suc n) i l = omega arith

pub row_of : (n i : ℕ) → i < n * n → i / n < n
row_of n i l = div_below i n n (positive n i l) l

pub place_of : (n i : ℕ) → i < n * n → i % n < n
place_of n i l = mod-lt i (positive n i l)

-- an entry other than the i-th is before it or past it
apart : (n i x k : ℕ) → k < n → i < n * n → (i / n ≡ x → i % n ≡ k → ⊥) → x * n + k ≡ i → ⊥
apart n i x k hk l ne e =
    ne (ap (λ y. y / n) (sym e) ∙ div-mul-add x n k hk) (ap (λ y. y % n) (sym e) ∙ mod-mul-add x n k hk)

pub renew_more : {R : Type 0} (f g h : ℕ → ℕ → R) (n i x k : ℕ) → i < n * n → h x k ≡ renew_from f n (i + 1) g x k
    → put_at h (i / n) (i % n) (f (i / n) (i % n)) x k ≡ renew_from f n i g x k
renew_more f g h n i x k l e =
    let place = place_of n i l in
    let at = div-add-mod' i n in
    elim (cases_lt k n) [
      | inl k_lt ↦
          let row = div-mul-add x n k k_lt in
          let column = mod-mul-add x n k k_lt in
          grind (arith, nat_tests)
      | inr k_le ↦ grind (arith, nat_tests)
    ]

pub renew_none : {R : Type 0} (f g : ℕ → ℕ → R) (n i x k : ℕ) → x < n → n * n ≤ i → g x k ≡ renew_from f n i g x k
renew_none f g n i x k hx l =
    elim (cases_lt k n) [
      | inl k_lt ↦ let row = mul-add-lt x n k n hx k_lt in grind (arith, nat_tests)
      | inr k_le ↦ grind (arith, nat_tests)
    ]

pub renew_all : {R : Type 0} (f g : ℕ → ℕ → R) (n x k : ℕ) → renew_from f n 0 g x k ≡ cond (ltb k n) (f x k) (g x k)
renew_all f g n x k = grind (arith, nat_tests)

-- ---- all entries

content_carried : {S V : Type 0} (s : S) (o : Option V) → content (option_map (λ v. (s, v)) o) ≡ o
content_carried s None = refl
content_carried s (Some v) = refl

-- one leader more
lead_push : {S : Type 0} (above : S → S → Bool) (s t : S) (xs : List S) (c : Bool) → among above s (xs ++ cond c (t ∷ []) []) ≡ (among above s xs || (c && level above s t))
lead_push above s t xs true = among_push above s xs (Some t)
lead_push above s t xs false = among_push above s xs None

cond_same : {A : Type 0} (b : Bool) (x : A) → cond b x x ≡ x
cond_same true x = refl
cond_same false x = refl

module _ {S V : Type 0} (K : Rules S V) (d : S × V) {owner : S → ℕ} {successor : ℕ → S → S → Option S} (ordered : TimestampLaws K.above owner d.0 successor) (g : Grid S V) where
  abbrev r : Reading S V
  r = shown K.above d K.n g

  abbrev f : Grid S V
  f = anew K.above (leads K r) r

  abbrev h : Grid S V
  h x k = cond (ltb k K.n) (f x k) (g x k)

  slot : (x k : ℕ) → k < K.n → h x k ≡ f x k
  slot x k b = cond-true (ltb k K.n) (f x k) (g x k) (lt-ltb k K.n b)

  last : (x : ℕ) → h x K.n ≡ g x K.n
  last x = cond-false (ltb K.n K.n) (f x K.n) (g x K.n) (le-ltb K.n K.n (omega arith))

  own_latest : (j : ℕ) → leads K r j ≡ true → f j j ≡ Some (r.latest j, r.latest_value j)
  own_latest j e = let same = level_same K.above ordered (r.latest j) in grind (arith, nat_tests, same)

  not_content : (x j : ℕ) → leads K r j ≡ false → f x j ≡ None
  not_content x j e = grind (arith, nat_tests)

  slots_lead : (i : ℕ) → i ≤ K.n → slots h i ≡ leaders K r i
  slots_lead zero l = refl
  slots_lead (suc i) l =
      let here : i < K.n = omega arith in
      let ih = slots_lead i (omega arith) in
      let at = slot i i here in
      elim (cases_Bool (leads K r i)) [ inl e ↦ let own = own_latest i e in grind (arith, nat_tests) | inr e ↦ let none = not_content i i e in grind (arith, nat_tests) ]

  watches_lead : (s : S) (i : ℕ) → i < K.n → watches K.above h s i ≡ (leads K r i && level K.above s (r.latest i))
  watches_lead s i here =
      let at = slot i i here in
      elim (cases_Bool (leads K r i)) [ inl e ↦ let own = own_latest i e in grind (arith, nat_tests) | inr e ↦ let none = not_content i i e in grind (arith, nat_tests) ]

  kept_lead : (c : ℕ) (s : S) (i : ℕ) → i ≤ K.n → kept K.above h c s i ≡ cond (among K.above s (leaders K r i)) (has K.above r c s) None
  kept_lead c s zero l = refl
  kept_lead c s (suc i) l =
      let here : i < K.n = omega arith in
      let t : Bool = leads K r i && level K.above s (r.latest i) in
      let more : among K.above s (leaders K r (suc i)) ≡ (among K.above s (leaders K r i) || t) = lead_push K.above s (r.latest i) (leaders K r i) (leads K r i) in
      let watched = watches_lead s i here in
      let ih = kept_lead c s i (omega arith) in
      elim (cases_Bool t) [
        | inl e ↦
            let p = and_parts (leads K r i) (level K.above s (r.latest i)) e in
            let st : s ≡ r.latest i = level_equal K.above ordered s (r.latest i) p.1 in
            let own : content (h c i) ≡ has K.above r c (r.latest i) =
            ap content (slot c i here ∙ cond-true (leads K r i) (fresh K.above r c i) None p.0) ∙ content_carried (r.latest i) (has K.above r c (r.latest i)) in
            let same = ap (λ x. has K.above r c x) st in
            grind (arith, nat_tests)
        | inr e ↦ grind (arith, nat_tests)
      ]

  pub enter_all : shown K.above d K.n h ≡ rewatched K r
  enter_all =
      same_reading (shown K.above d K.n h) (rewatched K r)
      (λ c. ap (λ x. is_some (cond (ltb c K.n) x None)) (last c))
      (λ c. ap (λ x. (unwrap_or (cond (ltb c K.n) x None) d).0) (last c))
      (λ c. ap (λ x. (unwrap_or (cond (ltb c K.n) x None) d).1) (last c))
      (slots_lead K.n (omega arith))
      (λ c s. elim (cases_Bool (ltb c K.n)) [
        | inl e ↦ let own = kept_lead c s K.n (omega arith) in grind (arith, nat_tests)
        | inr e ↦
            let out : K.n ≤ c = ltb-false c K.n e in
            let unknown : has K.above r c s ≡ None = grind (arith, nat_tests) in
            grind (arith, nat_tests)
      ])

-- ---- nothing is known

module _ {S V : Type 0} (above : S → S → Bool) (lowest : S) (initial : V) where
  abbrev blank : Grid S V
  blank c k = None

  slots_blank : (i : ℕ) → slots blank i ≡ []
  slots_blank zero = refl
  slots_blank (suc i) = ap (λ xs. xs ++ []) (slots_blank i)

  kept_blank : (b : ℕ) (s : S) (i : ℕ) → kept above blank b s i ≡ None
  kept_blank b s zero = refl
  kept_blank b s (suc i) = kept_blank b s i

  pub unread_all : (n : ℕ) → shown above (lowest, initial) n blank ≡ unread lowest initial
  unread_all n =
      let none : (b : ℕ) → cond {A = Report S V} (ltb b n) None None ≡ None = λ b. cond_same (ltb b n) None in
      same_reading (shown above (lowest, initial) n blank) (unread lowest initial)
      (λ b. ap is_some (none b)) (λ b. ap (λ (r : Report S V). (unwrap_or r (lowest, initial)).0) (none b)) (λ b. ap (λ (r : Report S V). (unwrap_or r (lowest, initial)).1) (none b)) (slots_blank n)
      (λ b s. ap (λ o. cond (ltb b n) o None) (kept_blank b s n) ∙ cond_same (ltb b n) None)
