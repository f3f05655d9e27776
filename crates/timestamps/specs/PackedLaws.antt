-- Packed timestamps with equal numbers are equal, and packed timestamps keep the laws. Assumes nothing.
use Rattle.std.specs.Prelude.{◌≡◌, ℕ, suc, ◌%◌, ◌^◌, ◌<◌, ◌≤◌, Bool, true, false, T, Some, None, Option, nat_lt, refl}
use Rattle.std.proofs.Common.{sym, ap, subst, ◌∙◌, ⊎_elim, arith, leb→le}
use mathlib.Core.HLevel.{is_prop→PathP}
use Rattle.std.proofs.Math.Bridge.{le_prop}
use Rattle.std.proofs.lemmas.Bool.{true≢false, false≢true, cases_lt, lt-ltb, le-ltb, ltb-false, cond-true, cond-false, cond_both, ltb-true}
use Rattle.std.proofs.lemmas.Bool.Decides.{nat_tests}
use Rattle.timestamps.specs.declared.packed.Packed.{Packed}
use Rattle.timestamps.specs.Laws.{higher, Candidate, Next, TimestampLaws}
use Rattle.timestamps.specs.PackedOrder.{packed_above, packed_owner, packed_lowest, packed_when, packed, following, next_number, packed_successor}

-- a packed timestamp is its number
pub packed_equal : (s t : Packed) → s.number ≡ t.number → s ≡ t
packed_equal s t e = λ i. record {
  number = e i;
  fits = is_prop→PathP (λ j. e j < 2 ^ 64) (λ j. le_prop) s.fits t.fits i;
}

when_true : (s : Packed) (test : Bool) (fit : T test → s.number < 2 ^ 64) → test ≡ true → packed_when s.number test fit ≡ Some s
when_true s true fit e = ap (λ (t : Packed). Some t) (packed_equal _ s refl)
when_true s false fit e = absurd (false≢true e)

when_false : (n : ℕ) (test : Bool) (fit : T test → n < 2 ^ 64) → test ≡ false → packed_when n test fit ≡ None
when_false n true fit e = absurd (true≢false e)
when_false n false fit e = refl

-- the timestamp of its own number
pub packed_number : (s : Packed) → packed s.number ≡ Some s
packed_number s = when_true s (nat_lt s.number (2 ^ 64)) (leb→le (suc s.number) (2 ^ 64)) (lt-ltb s.number (2 ^ 64) s.fits)

-- no timestamp has a number from 2 ^ 64 on
pub packed_none : (n : ℕ) → 2 ^ 64 ≤ n → packed n ≡ None
packed_none n h = when_false n (nat_lt n (2 ^ 64)) (leb→le (suc n) (2 ^ 64)) (le-ltb n (2 ^ 64) h)

-- the timestamp of the following number is the successor
pub packed_next : (client : ℕ) (a b s : Packed) → client < 64 → s.number ≡ following client (higher packed_above a b).number → packed_successor client a b ≡ Some s
packed_next client a b s h e = cond-true (nat_lt client 64) _ None (lt-ltb client 64 h) ∙ ap packed (sym e) ∙ packed_number s

-- the following number is of the client and above top, and no number of the client above top is below it
followed : (client top : ℕ) → client < 64 → (following client top % 64 ≡ client) × (top < following client top)
followed client top h = (grind (arith, nat_tests), grind (arith, nat_tests))

none_between : (client top n : ℕ) → n % 64 ≡ client → top < n → following client top ≤ n
none_between client top n o h = grind (arith, nat_tests)

-- what is above the higher of two is above both, and the other way round
above_both : (a b s : Packed) → (higher packed_above a b).number < s.number → (a.number < s.number) × (b.number < s.number)
above_both a b s h = (grind (arith, nat_tests), grind (arith, nat_tests))

above_higher : (client : ℕ) (a b u : Packed) → Candidate packed_above packed_owner client a b u → (higher packed_above a b).number < u.number
above_higher client a b u c = cond_both (packed_above b a) b a (λ t. t.number < u.number) (λ _. ltb-true b.number u.number c.above_second) (λ _. ltb-true a.number u.number c.above_first)

candidate_from : (client : ℕ) (a b u : Packed) → Candidate packed_above packed_owner client a b u → following client (higher packed_above a b).number ≤ u.number
candidate_from client a b u c = none_between client (higher packed_above a b).number u.number c.owned (above_higher client a b u c)

-- the timestamp of the following number is the lowest of its client above both
pub lowest_some : (client : ℕ) (a b s : Packed) → client < 64 → s.number ≡ following client (higher packed_above a b).number → Next packed_above packed_owner client a b (Some s)
lowest_some client a b s h e =
    let f = followed client (higher packed_above a b).number h in
    let over = above_both a b s (omega (arith, e, f.1)) in (
      record {
        owned = ap (λ n. n % 64) e ∙ f.0;
        above_first = lt-ltb a.number s.number over.0;
        above_second = lt-ltb b.number s.number over.1;
      },
      λ u c. le-ltb u.number s.number (omega (arith, e, candidate_from client a b u c)),
    )

packed_lowest_next : (client : ℕ) (a b : Packed) → Next packed_above packed_owner client a b (packed_successor client a b)
packed_lowest_next client a b =
    let P : Option Packed → Type 0 = Next packed_above packed_owner client a b in
    let n = following client (higher packed_above a b).number in
    ⊎_elim
    (λ owns. ⊎_elim
    (λ fit. let s : Packed = record { number = n; fits = fit } in subst P (sym (packed_next client a b s owns refl)) (lowest_some client a b s owns refl))
    (λ over. subst P (sym (cond-true (nat_lt client 64) (packed n) None (lt-ltb client 64 owns) ∙ packed_none n over)) (λ u c. omega (arith, u.fits, candidate_from client a b u c)))
    (cases_lt n (2 ^ 64)))
    (λ over. subst P (sym (cond-false (nat_lt client 64) (packed n) None (le-ltb client 64 over))) (λ u c. omega (arith, c.owned)))
    (cases_lt client 64)

-- packed timestamps keep the laws
pub packed_laws : TimestampLaws packed_above packed_owner packed_lowest packed_successor
packed_laws = record {
  irreflexive = λ s. grind (arith, nat_tests);
  transitive = λ s t u p q. grind (arith, nat_tests);
  total = λ s t p q. packed_equal s t (omega (arith, ltb-false t.number s.number p, ltb-false s.number t.number q));
  lowest_below = λ s. grind (arith, nat_tests);
  successor_lowest = packed_lowest_next;
}

-- a next number is the following one, of a client below 64
pub next_found : (client top n : ℕ) → Some n ≡ next_number client top → (client < 64) × (n ≡ following client top)
next_found client top n e = (grind (arith, nat_tests), grind (arith, nat_tests))
