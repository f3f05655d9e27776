-- Tests, updates, lists and the order of timestamps.
use Rattle.std.proofs.Common.{◌≡◌, ℕ, zero, suc, ◌<◌, ◌≤◌, Bool, true, false, cond, not, ◌&&◌, T, eqb, ltb, leb, ◌⊎◌, List, [], ◌∷◌, ◌++◌, Some, None, Option, sym, refl, ap, subst, inl, inr, arith, eqb→eq, ltb→lt, leb→le, nltb→le}
use lib.Dec.{eqb_refl, nleb→lt}
use Rattle.timestamps.specs.Laws.{higher, Candidate, Next}
use Rattle.reading.specs.Readings.{updated, level}
use Rattle.protocol.specs.Settings.{Setting, Lawful}
use Rattle.protocol.specs.Clients.{to_all}
use Rattle.protocol.specs.Protocol.{lifted, lift}
use Rattle.protocol.specs.Runs.{In, here, there}

pub zero≢one : ◌≡◌ {A = ℕ} 0 1 → ⊥
zero≢one e = omega arith

pub t≢f : {b : Bool} → b ≡ true → b ≡ false → ⊥
t≢f {b} p q = let e : ◌≡◌ {A = ℕ} 0 1 = cc in zero≢one e

pub Some≢None : {A : Type 0} {o : Option A} {a : A} → o ≡ Some a → o ≡ None → ⊥
Some≢None p q = let e : ◌≡◌ {A = ℕ} 0 1 = cc in zero≢one e

pub either : (b : Bool) → (b ≡ true) ⊎ (b ≡ false)
either true = inl refl
either false = inr refl

pub by_cond : {A : Type 0} (P : A → Type 0) (t : Bool) (x y : A) → (t ≡ true → P x) → (t ≡ false → P y) → P (cond t x y)
by_cond P true x y f g = f refl
by_cond P false x y f g = g refl

pub T_of : {b : Bool} → b ≡ true → T b
T_of e = subst T (sym e) tt

pub true_of : (b : Bool) → T b → b ≡ true
true_of true t = refl
true_of false t = absurd t

pub T-not-of : {b : Bool} → b ≡ false → T (not b)
T-not-of e = subst (λ b. T (not b)) (sym e) tt

pub eq_of : (i j : ℕ) → eqb i j ≡ true → i ≡ j
eq_of i j e = eqb→eq i j (T_of e)

pub eqb_same : (i : ℕ) → eqb i i ≡ true
eqb_same i = true_of (eqb i i) (eqb_refl i)

pub lt_of : (i j : ℕ) → ltb i j ≡ true → i < j
lt_of i j e = ltb→lt i j (T_of e)

pub ge_of : (i j : ℕ) → ltb i j ≡ false → j ≤ i
ge_of i j e = nltb→le i j (T-not-of e)

pub le_of : (i j : ℕ) → leb i j ≡ true → i ≤ j
le_of i j e = leb→le i j (T_of e)

pub gt_of : (i j : ℕ) → leb i j ≡ false → j < i
gt_of i j e = nleb→lt i j (T-not-of e)

pub and_l : (a b : Bool) → (a && b) ≡ true → a ≡ true
and_l true b e = refl
and_l false b e = e

pub and_r : (a b : Bool) → (a && b) ≡ true → b ≡ true
and_r true b e = e
and_r false b e = absurd (t≢f e refl)

pub and_both : (a b : Bool) → a ≡ true → b ≡ true → (a && b) ≡ true
and_both a b p q = cc

pub not-true : (a : Bool) → not a ≡ true → a ≡ false
not-true true e = sym e
not-true false e = refl

pub not-false : (a : Bool) → not a ≡ false → a ≡ true
not-false true e = refl
not-false false e = sym e

pub updated_elim : {A : Type 0} (P : A → Type 0) (f : ℕ → A) (i : ℕ) (x : A) (j : ℕ) → (i ≡ j → P x) → P (f j) → P (updated f i x j)
updated_elim P f i x j p q = by_cond P (eqb i j) x (f j) (λ e. p (eq_of i j e)) (λ e. q)

pub updated_at : {A : Type 0} (f : ℕ → A) (i : ℕ) (x : A) → updated f i x i ≡ x
updated_at f i x = ap (λ t. cond t x (f i)) (eqb_same i)

-- each element has the property
abbrev pub All : {A : Type 0} → (A → Type 0) → List A → Type 0
All P [] = Unit {0}
All P (x ∷ xs) = P x × All P xs

pub all_map : {A : Type 0} (P Q : A → Type 0) → ((a : A) → P a → Q a) → (xs : List A) → All P xs → All Q xs
all_map P Q f [] h = tt
all_map P Q f (x ∷ xs) h = (f x h.0, all_map P Q f xs h.1)

pub all-++ : {A : Type 0} (P : A → Type 0) (xs ys : List A) → All P xs → All P ys → All P (xs ++ ys)
all-++ P [] ys h k = k
all-++ P (x ∷ xs) ys h k = (h.0, all-++ P xs ys h.1 k)

pub all_to : {A : Type 0} (P : A → Type 0) (n : ℕ) (f : ℕ → A) → ((i : ℕ) → P (f i)) → All P (to_all n f)
all_to P zero f h = tt
all_to P (suc n) f h = all-++ P (to_all n f) (f n ∷ []) (all_to P n f h) (h n, tt)

pub all_lift : {A : Type 0} (P : A → Type 0) (k : ℕ) (xs : List A) (p : A × List A) → lift k xs ≡ Some p → All P xs → P p.0 × All P p.1
all_lift P k [] p e h = absurd (Some≢None e refl)
all_lift P zero (x ∷ xs) p e h =
    let e0 : p.0 ≡ x = cc in
    let e1 : p.1 ≡ xs = cc in
    (subst P (sym e0) h.0, subst (All P) (sym e1) h.1)
all_lift {A} P (suc k) (x ∷ xs) p e h = go (lift k xs) refl e (λ q i. all_lift P k xs q i h.1)
  where
    go : (o : Option (A × List A)) → lift k xs ≡ o → lifted x o ≡ Some p → ((q : A × List A) → lift k xs ≡ Some q → P q.0 × All P q.1) → P p.0 × All P p.1
    go None i e f = absurd (Some≢None e refl)
    go (Some q) i e f =
        let r = f q i in
        let e0 : p.0 ≡ q.0 = cc in
        let e1 : p.1 ≡ (x ∷ q.1) = cc in
        (subst P (sym e0) r.0, subst (All P) (sym e1) (h.0, r.1))

pub in_cons : {A : Type 0} {l x : A} {xs : List A} → In l (x ∷ xs) → (l ≡ x) ⊎ In l xs
in_cons here = inl refl
in_cons (there i) = inr i

pub in_lift : {A : Type 0} (l : A) (k : ℕ) (xs : List A) (p : A × List A) → lift k xs ≡ Some p → In l xs → (l ≡ p.0) ⊎ In l p.1
in_lift l k [] p e i = absurd (Some≢None e refl)
in_lift l zero (x ∷ xs) p e here = inl cc
in_lift l zero (x ∷ xs) p e (there i) = let e1 : p.1 ≡ xs = cc in inr (subst (In l) (sym e1) i)
in_lift {A} l (suc k) (x ∷ xs) p e j = go (lift k xs) refl e (in_cons j) (λ q i u. in_lift l k xs q i u)
  where
    go : (o : Option (A × List A)) → lift k xs ≡ o → lifted x o ≡ Some p → (l ≡ x) ⊎ In l xs → ((q : A × List A) → lift k xs ≡ Some q → In l xs → (l ≡ q.0) ⊎ In l q.1) → (l ≡ p.0) ⊎ In l p.1
    go None i e j f = absurd (Some≢None e refl)
    go (Some q) i e (inl j) f = let e1 : p.1 ≡ (l ∷ q.1) = cc in inr (subst (In l) (sym e1) here)
    go (Some q) i e (inr j) f =
        let e1 : p.1 ≡ (x ∷ q.1) = cc in
        elim (f q i j) [ inl u ↦ inl cc | inr u ↦ inr (subst (In l) (sym e1) (there u)) ]

pub in_left : {A : Type 0} {l : A} (xs ys : List A) → In l xs → In l (xs ++ ys)
in_left [] ys i = elim i [ ]
in_left (x ∷ xs) ys here = here
in_left (x ∷ xs) ys (there i) = there (in_left xs ys i)

pub in_right : {A : Type 0} {l : A} (xs ys : List A) → In l ys → In l (xs ++ ys)
in_right [] ys i = i
in_right (x ∷ xs) ys i = there (in_right xs ys i)

pub in_to : {A : Type 0} (n : ℕ) (f : ℕ → A) (i : ℕ) → i < n → In (f i) (to_all n f)
in_to zero f i h = absurd (omega arith)
in_to (suc n) f i h = go (eqb i n) refl (λ k. in_to n f i k)
  where
    go : (t : Bool) → eqb i n ≡ t → (i < n → In (f i) (to_all n f)) → In (f i) (to_all n f ++ (f n ∷ []))
    go true e r = in_right (to_all n f) (f n ∷ []) (subst (λ j. In (f i) (f j ∷ [])) (eq_of i n e) here)
    go false e r = in_left (to_all n f) (f n ∷ []) (r (grind arith))

module _ {S V : Type 0} (K : Setting S V) where
  -- the first is not above the second
  abbrev pub Le : S → S → Type 0
  Le a b = K.rules.above a b ≡ false

  module _ (L : Lawful K) where
    pub lt_le_lt : (a b c : S) → K.rules.above b a ≡ true → Le b c → K.rules.above c a ≡ true
    lt_le_lt a b c p q = go (K.rules.above c b) refl
      where
        go : (t : Bool) → K.rules.above c b ≡ t → K.rules.above c a ≡ true
        go true e = L.timestamps.transitive c b a e p
        go false e = subst (λ x. K.rules.above x a ≡ true) (L.timestamps.total b c q e) p

    pub le_trans : (a b c : S) → Le a b → Le b c → Le a c
    le_trans a b c p q = go (K.rules.above a c) refl
      where
        go : (t : Bool) → K.rules.above a c ≡ t → Le a c
        go true e = go2 (K.rules.above c b) refl
          where
            go2 : (t : Bool) → K.rules.above c b ≡ t → Le a c
            go2 true f = absurd (t≢f (L.timestamps.transitive a c b e f) p)
            go2 false f = let g : b ≡ c = L.timestamps.total b c q f in absurd (t≢f (subst (λ x. K.rules.above a x ≡ true) (sym g) e) p)
        go false e = e

    pub lt_le : (a b : S) → K.rules.above a b ≡ true → Le b a
    lt_le a b p = go (K.rules.above b a) refl
      where
        go : (t : Bool) → K.rules.above b a ≡ t → Le b a
        go true e = absurd (t≢f (L.timestamps.transitive a b a p e) (L.timestamps.irreflexive a))
        go false e = e

    pub lt_le_lt_r : (a b c : S) → Le a b → K.rules.above c b ≡ true → K.rules.above c a ≡ true
    lt_le_lt_r a b c x y = go (K.rules.above b a) refl
      where
        go : (t : Bool) → K.rules.above b a ≡ t → K.rules.above c a ≡ true
        go true e = L.timestamps.transitive c b a y e
        go false e = subst (λ z. K.rules.above c z ≡ true) (sym (L.timestamps.total a b x e)) y

    pub le_eq : (a b : S) → a ≡ b → Le a b
    le_eq a b e = subst (Le a) e (L.timestamps.irreflexive a)

    pub le_higher_l : (a b : S) → Le a (higher K.rules.above a b)
    le_higher_l a b = by_cond (Le a) (K.rules.above b a) b a (λ e. lt_le b a e) (λ e. L.timestamps.irreflexive a)

    pub le_higher_r : (a b : S) → Le b (higher K.rules.above a b)
    le_higher_r a b = by_cond (Le b) (K.rules.above b a) b a (λ e. L.timestamps.irreflexive b) (λ e. e)

    pub successor_candidate : (client : ℕ) (a b s : S) → K.successor client a b ≡ Some s → Candidate K.rules.above K.owner client a b s
    successor_candidate client a b s e = (subst (Next K.rules.above K.owner client a b) e (L.timestamps.successor_lowest client a b)).0

    pub level_eq : (a b : S) → level K.rules.above a b ≡ true → a ≡ b
    level_eq a b e = L.timestamps.total a b (not-true (K.rules.above a b) (and_l (not (K.rules.above a b)) (not (K.rules.above b a)) e)) (not-true (K.rules.above b a) (and_r (not (K.rules.above a b)) (not (K.rules.above b a)) e))

    pub level_refl : (a : S) → level K.rules.above a a ≡ true
    level_refl a = cc (L.timestamps.irreflexive a)
