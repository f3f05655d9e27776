-- How many servers sets have, and the laws of the threshold system.
use Rattle.std.specs.Prelude.{◌≡◌, ℕ, zero, suc, ◌+◌, ◌*◌, ◌/◌, ◌%◌, ◌^◌, ◌<◌, ◌≤◌, Bool, true, false, cond, not, ◌&&◌, ◌||◌, ◌⊎◌, ◌==◌, nat_le, refl}
use Rattle.std.proofs.Common.{sym, ap, ◌∙◌, inl, inr, arith, mod-lt, add-one}
use Rattle.std.specs.Int.Count.{ones}
use Rattle.std.proofs.lemmas.Nat.{mod-pow-add, pow_pos, ones_cat, ones-le}
use Rattle.std.proofs.lemmas.Bool.{leb-true, le-leb, and_parts, or_right}
use Rattle.std.proofs.lemmas.Bool.Decides.{nat_tests}
use Rattle.quorums.specs.Sets.{Set, bits, none, both, either, outside, tally, all, part_of}
use Rattle.quorums.specs.Laws.{Part, QuorumLaws}
use Rattle.quorums.specs.ByCount.{needed}

abbrev tail : Set → Set
tail s i = s (suc i)

tally_none : (n : ℕ) → tally n none ≡ 0
unfolding tally
tally_none zero = refl
tally_none (suc n) = omega (arith, tally_none n)

at_both : (x y : Bool) → cond x 1 0 + cond y 1 0 ≤ 1 + cond (x && y) 1 0
at_both x y = grind arith

-- two large sets share many servers
tally_both : (n : ℕ) (a b : Set) → tally n a + tally n b ≤ n + tally n (both a b)
unfolding tally
tally_both zero a b = omega arith
tally_both (suc n) a b = omega (arith, tally_both n (tail a) (tail b), at_both (a 0) (b 0))

at_outside : (x : Bool) → cond (not x) 1 0 + cond x 1 0 ≡ 1
at_outside true = refl
at_outside false = refl

tally_outside : (n : ℕ) (a : Set) → tally n (outside a) + tally n a ≡ n
unfolding tally
tally_outside zero a = refl
tally_outside (suc n) a = omega (arith, tally_outside n (tail a), at_outside (a 0))

at_part : (x y : Bool) → (x ≡ true → y ≡ true) → cond x 1 0 ≤ cond y 1 0
at_part true y h = rw (h refl) (omega arith)
at_part false y h = omega arith

tally_part : (n : ℕ) (a b : Set) → Part n a b → tally n a ≤ tally n b
unfolding tally
tally_part zero a b p = omega arith
tally_part (suc n) a b p = omega (arith, tally_part n (tail a) (tail b) (λ i h. p (suc i) (omega arith)), at_part (a 0) (b 0) (p 0 (omega arith)))

-- ---- tests of sets by their counts

at_whole : (x y : Bool) (t n : ℕ) → t ≤ n → (t == n) ≡ y → (cond x 1 0 + t == suc n) ≡ (x && y)
at_whole x y t n le e = grind (arith, nat_tests)

-- a set has all servers where it has n of them
pub tally_all : (n : ℕ) (s : Set) → (tally n s == n) ≡ all n s
unfolding tally all
tally_all zero s = refl
tally_all (suc n) s = at_whole (s 0) (all n (tail s)) (tally n (tail s)) n (omega (arith, tally_outside n (tail s))) (tally_all n (tail s))

at_part_of : (x y z : Bool) (t u : ℕ) → u ≤ t → (t == u) ≡ z → (cond (x || y) 1 0 + t == cond y 1 0 + u) ≡ ((not x || y) && z)
at_part_of x y z t u le e = grind (arith, nat_tests)

-- a is a part of b where the two together have no more servers than b
pub tally_part_of : (n : ℕ) (a b : Set) → (tally n (either a b) == tally n b) ≡ part_of n a b
unfolding tally all
tally_part_of zero a b = refl
tally_part_of (suc n) a b =
    at_part_of (a 0) (b 0) (part_of n (tail a) (tail b)) (tally n (either (tail a) (tail b))) (tally n (tail b))
    (tally_part n (tail b) (either (tail a) (tail b)) (λ i l. or_right (a (suc i)) (b (suc i))))
    (tally_part_of n (tail a) (tail b))

-- ---- the ones of a mask are its members

at_digit : (r : ℕ) → r < 2 → cond (r == 1) 1 0 ≡ r
at_digit r h = grind (arith, nat_tests)

ones_digit : (r : ℕ) → r < 2 → ones r ≡ r
unfolding ones
ones_digit zero h = refl
ones_digit (suc zero) h = refl
ones_digit (suc (suc r)) h = absurd (omega arith)

-- as many of the first n servers are members as the first n bits of the mask have ones
pub ones_tally : (n m : ℕ) → ones (m % 2 ^ n) ≡ tally n (bits m)
unfolding tally
ones_tally zero m = omega (arith, ones-le 0 (m % 2 ^ 0) (mod-lt m (pow_pos 0)))
ones_tally (suc n) m =
    let low : m % 2 < 2 = omega arith in
    let apart : ones (m / 2 % 2 ^ n * 2 + m % 2) ≡ ones (m / 2 % 2 ^ n) + ones (m % 2) = ones_cat 1 (m / 2 % 2 ^ n) (m % 2) low in
    let whole : ones (m % 2 ^ suc n) ≡ ones (m / 2 % 2 ^ n) + ones (m % 2) = ap (λ k. ones (m % 2 ^ k)) (sym (add-one n)) ∙ ap ones (mod-pow-add m n 1) ∙ apart in
    omega (arith, whole, ones_tally n (m / 2), ones_digit (m % 2) low, at_digit (m % 2) low)

-- ---- the laws

-- a server of a that f lacks
abbrev Beside : ℕ → Set → Set → Type 0
Beside n a f = (i : ℕ) × (i < n) × (a i ≡ true) × (f i ≡ false)

at_larger : (x y : Bool) → ((x ≡ true) × (y ≡ false)) ⊎ (cond x 1 0 ≤ cond y 1 0)
at_larger true true = inr (omega arith)
at_larger true false = inl (refl, refl)
at_larger false true = inr (omega arith)
at_larger false false = inr (omega arith)

-- of two sets, the one with more servers has one that the other lacks
tally_larger : (n : ℕ) (a f : Set) → tally n f < tally n a → Beside n a f
unfolding tally
tally_larger zero a f h = absurd (omega arith)
tally_larger (suc n) a f h =
    elim (at_larger (a 0) (f 0)) [
      | inl e ↦ (0, omega arith, e.0, e.1)
      | inr le ↦
          let found : Beside n (tail a) (tail f) = tally_larger n (tail a) (tail f) (omega (arith, le)) in
          (suc found.0, omega (arith, found.1), found.2, found.3)
    ]

-- the threshold system of n servers and f faults keeps the laws
pub threshold_laws : (n f : ℕ) → n ≤ 16 → 3 * f + 1 ≤ n → QuorumLaws n (λ s. nat_le (needed n f) (tally n s)) (λ s. nat_le (tally n s) f)
threshold_laws n f few low = record {
  some_server = omega arith;
  few_servers = few;
  none_fail_prone = le-leb (tally n none) f (omega (arith, tally_none n));
  part_fail_prone = λ a b p e. le-leb (tally n a) f (omega (arith, tally_part n a b p, leb-true (tally n b) f e));
  larger_quorum = λ a b p e. le-leb (needed n f) (tally n b) (omega (arith, tally_part n a b p, leb-true (needed n f) (tally n a) e));
  quorums_meet = λ a b t ea eb et.
      let found : Beside n (both a b) t = tally_larger n (both a b) t (omega (arith, tally_both n a b, leb-true (needed n f) (tally n a) ea, leb-true (needed n f) (tally n b) eb, leb-true (tally n t) f et)) in
      let parts = and_parts (a found.0) (b found.0) found.2 in
      (found.0, found.1, parts.0, parts.1, found.3);
  rest_quorum = λ t e. le-leb (needed n f) (tally n (outside t)) (omega (arith, tally_outside n t, leb-true (tally n t) f e));
}
