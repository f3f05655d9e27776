-- The laws of the listed system.
use Rattle.std.specs.Prelude.{◌≡◌, ℕ, zero, suc, ◌<◌, ◌≤◌, Bool, true, false, not, ◌||◌, List, [], ◌∷◌, length, refl}
use Rattle.std.proofs.Common.{inl, inr, arith}
use Rattle.std.proofs.lemmas.Bool.{and_parts, and_from, and_cases, or_cases, or_parts, or_left, or_right, both_ways}
use Rattle.std.specs.List.{list_any}
use Rattle.quorums.specs.Sets.{Set, members, none, either, outside, all, part_of}
use Rattle.quorums.specs.Lists.{contained, completed, covered}
use Rattle.quorums.specs.Laws.{QuorumLaws}
use Rattle.quorums.specs.declared.sets.ServerSet.{ServerSet}

abbrev tail : Set → Set
tail s i = s (suc i)

-- ---- all servers

all_at : (n : ℕ) (s : Set) → all n s ≡ true → (i : ℕ) → i < n → s i ≡ true
unfolding all
all_at zero s e i h = absurd (omega arith)
all_at (suc n) s e zero h = (and_parts (s 0) (all n (tail s)) e).0
all_at (suc n) s e (suc i) h = all_at n (tail s) (and_parts (s 0) (all n (tail s)) e).1 i (omega arith)

all_from : (n : ℕ) (s : Set) → ((i : ℕ) → i < n → s i ≡ true) → all n s ≡ true
unfolding all
all_from zero s h = refl
all_from (suc n) s h = and_from (s 0) (all n (tail s)) (h 0 (omega arith)) (all_from n (tail s) (λ i l. h (suc i) (omega arith)))

all_lacks : (n : ℕ) (s : Set) → all n s ≡ false → (i : ℕ) × (i < n) × (s i ≡ false)
unfolding all
all_lacks zero s e = absurd (both_ways true e refl)
all_lacks (suc n) s e =
    elim (and_cases (s 0) (all n (tail s)) e) [
      | inl h ↦ (0, omega arith, h)
      | inr h ↦ let found = all_lacks n (tail s) h in (suc found.0, omega (arith, found.1), found.2)
    ]

-- a fact of each server carries over
all_map : (n : ℕ) (a b : Set) → ((i : ℕ) → i < n → a i ≡ true → b i ≡ true) → all n a ≡ true → all n b ≡ true
all_map n a b h e = all_from n b (λ i l. h i l (all_at n a e i l))

-- ---- some element

module _ {A : Type 0} where
  any_map : (p q : A → Bool) (xs : List A) → ((x : A) → p x ≡ true → q x ≡ true) → list_any p xs ≡ true → list_any q xs ≡ true
  any_map p q [] h e = e
  any_map p q (x ∷ xs) h e =
      elim (or_cases (p x) (list_any p xs) e) [ inl k ↦ or_left (q x) (list_any q xs) (h x k) | inr k ↦ or_right (q x) (list_any q xs) (any_map p q xs h k) ]

  any_each : (p : A → Bool) (xs : List A) → ((x : A) → p x ≡ true) → 0 < length xs → list_any p xs ≡ true
  any_each p [] h l = absurd (omega arith)
  any_each p (x ∷ xs) h l = or_left (p x) (list_any p xs) (h x)

  -- one test holds of some element, another of none: so some element passes the first and not the second
  any_but : (p q : A → Bool) (xs : List A) → list_any p xs ≡ true → list_any q xs ≡ false → (x : A) × (p x ≡ true) × (q x ≡ false)
  any_but p q [] e f = absurd (both_ways false refl e)
  any_but p q (x ∷ xs) e f =
      let fs = or_parts (q x) (list_any q xs) f in
      elim (or_cases (p x) (list_any p xs) e) [ inl h ↦ (x, h, fs.0) | inr h ↦ any_but p q xs h fs.1 ]

-- ---- one server

less : (x y l : Bool) → (y ≡ true → x ≡ true) → (not x || l) ≡ true → (not y || l) ≡ true
less x y l h e = grind arith

more : (l x y : Bool) → (x ≡ true → y ≡ true) → (l || x) ≡ true → (l || y) ≡ true
more l x y h e = grind arith

rest : (x l : Bool) → (not x || l) ≡ true → (l || not x) ≡ true
rest x l e = grind arith

-- a server outside three listed sets is in two quorums, and not in a fail-prone set
apart_at : (la lb lf a b f : Bool) → (lf || (la || lb)) ≡ false → (la || a) ≡ true → (lb || b) ≡ true → (not f || lf) ≡ true → (a ≡ true) × (b ≡ true) × (f ≡ false)
apart_at la lb lf a b f h p q r = (grind arith, grind arith, grind arith)

-- ---- the laws

-- a listed system of n servers, no three sets of which cover all, keeps the laws
pub listed_laws : (n : ℕ) (sets : List ServerSet) → 0 < n → n ≤ 16 → 0 < length sets → covered n sets ≡ false → QuorumLaws n (completed n sets) (contained n sets)
listed_laws n sets some few filled apart = record {
  some_server = some;
  few_servers = few;
  none_fail_prone = any_each (λ l. part_of n none (members l)) sets (λ l. all_from n (either (outside none) (members l)) (λ i h. refl)) filled;
  part_fail_prone = λ a b p. any_map (λ l. part_of n b (members l)) (λ l. part_of n a (members l)) sets
      (λ l. all_map n (either (outside b) (members l)) (either (outside a) (members l)) (λ i h. less (b i) (a i) (members l i) (p i h)));
  larger_quorum = λ a b p. any_map (λ l. all n (either (members l) a)) (λ l. all n (either (members l) b)) sets
      (λ l. all_map n (either (members l) a) (either (members l) b) (λ i h. more (members l i) (a i) (b i) (p i h)));
  quorums_meet = λ a b f ea eb ef.
      let one = any_but (λ l. all n (either (members l) a)) (λ x. list_any (λ y. completed n sets (either (members x) (members y))) sets) sets ea apart in
      let la = members one.0 in
      let two = any_but (λ l. all n (either (members l) b)) (λ y. completed n sets (either la (members y))) sets eb one.2 in
      let lb = members two.0 in
      let three = any_but (λ l. part_of n f (members l)) (λ z. all n (either (members z) (either la lb))) sets ef two.2 in
      let lf = members three.0 in
      let free = all_lacks n (either lf (either la lb)) three.2 in
      let i = free.0 in
      let out = apart_at (la i) (lb i) (lf i) (a i) (b i) (f i) free.2
      (all_at n (either la a) one.1 i free.1) (all_at n (either lb b) two.1 i free.1) (all_at n (either (outside f) lf) three.1 i free.1) in
      (i, free.1, out.0, out.1, out.2);
  rest_quorum = λ f. any_map (λ l. part_of n f (members l)) (λ l. all n (either (members l) (outside f))) sets
      (λ l. all_map n (either (outside f) (members l)) (either (members l) (outside f)) (λ i h. rest (f i) (members l i)));
}
