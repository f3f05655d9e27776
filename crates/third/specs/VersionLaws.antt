-- Versions with equal numbers are equal, and versions keep the laws of timestamps. Assumes nothing.
use Rattle.std.specs.Prelude.{◌≡◌, ℕ, suc, ◌+◌, ◌^◌, ◌<◌, ◌≤◌, Bool, true, false, T, Some, None, Option, ◌==◌, nat_lt, refl}
use Rattle.std.proofs.Common.{sym, ap, subst, ◌∙◌, ⊎_elim, arith, leb→le}
use mathlib.Core.HLevel.{is_prop→PathP}
use Rattle.std.proofs.Math.Bridge.{le_prop}
use Rattle.std.proofs.lemmas.Bool.{true≢false, false≢true, cases_lt, lt-ltb, le-ltb, ltb-false, cond-true, cond-false, cond_both, ltb-true, eq-eqb}
use Rattle.std.proofs.lemmas.Bool.Decides.{nat_tests}
use Rattle.timestamps.specs.Laws.{higher, Candidate, Next, TimestampLaws}
use Rattle.third.specs.declared.version.Version.{Version}
use Rattle.third.specs.VersionOrder.{version_above, version_owner, version_lowest, version_when, version, next_number, version_successor}

-- a version is its number
pub version_equal : (s t : Version) → s.number ≡ t.number → s ≡ t
version_equal s t e = λ i. record {
  number = e i;
  fits = is_prop→PathP (λ j. e j < 2 ^ 8) (λ j. le_prop) s.fits t.fits i;
}

when_true : (s : Version) (test : Bool) (fit : T test → s.number < 2 ^ 8) → test ≡ true → version_when s.number test fit ≡ Some s
when_true s true fit e = ap (λ (t : Version). Some t) (version_equal _ s refl)
when_true s false fit e = absurd (false≢true e)

when_false : (n : ℕ) (test : Bool) (fit : T test → n < 2 ^ 8) → test ≡ false → version_when n test fit ≡ None
when_false n true fit e = absurd (true≢false e)
when_false n false fit e = refl

-- the version of its own number
version_number : (s : Version) → version s.number ≡ Some s
version_number s = when_true s (nat_lt s.number (2 ^ 8)) (leb→le (suc s.number) (2 ^ 8)) (lt-ltb s.number (2 ^ 8) s.fits)

-- no version has a number from 2 ^ 8 on
pub version_none : (n : ℕ) → 2 ^ 8 ≤ n → version n ≡ None
version_none n h = when_false n (nat_lt n (2 ^ 8)) (leb→le (suc n) (2 ^ 8)) (le-ltb n (2 ^ 8) h)

-- the version of the number after both is the successor
pub version_next : (client : ℕ) (a b s : Version) → client ≡ 0 → s.number ≡ (higher version_above a b).number + 1 → version_successor client a b ≡ Some s
version_next client a b s h e = cond-true (client == 0) _ None (eq-eqb client 0 h) ∙ ap version (sym e) ∙ version_number s

-- a client from 1 on is not client 0
pub other_client : (client : ℕ) → 1 ≤ client → (client == 0) ≡ false
other_client client h = grind (arith, nat_tests)

-- what is above the higher of two is above both, and the other way round
above_both : (a b s : Version) → (higher version_above a b).number < s.number → (a.number < s.number) × (b.number < s.number)
above_both a b s h = (grind (arith, nat_tests), grind (arith, nat_tests))

above_higher : (client : ℕ) (a b u : Version) → Candidate version_above version_owner client a b u → (higher version_above a b).number < u.number
above_higher client a b u c = cond_both (version_above b a) b a (λ t. t.number < u.number) (λ _. ltb-true b.number u.number c.above_second) (λ _. ltb-true a.number u.number c.above_first)

-- the version after the higher of two is the lowest above both, for client 0
pub lowest_some : (client : ℕ) (a b s : Version) → client ≡ 0 → s.number ≡ (higher version_above a b).number + 1 → Next version_above version_owner client a b (Some s)
lowest_some client a b s h e =
    let over = above_both a b s (omega (arith, e)) in (
      record {
        owned = sym h;
        above_first = lt-ltb a.number s.number over.0;
        above_second = lt-ltb b.number s.number over.1;
      },
      λ u c. le-ltb u.number s.number (omega (arith, e, above_higher client a b u c)),
    )

lowest_next : (client : ℕ) (a b : Version) → Next version_above version_owner client a b (version_successor client a b)
lowest_next client a b =
    let P : Option Version → Type 0 = Next version_above version_owner client a b in
    let n = (higher version_above a b).number + 1 in
    ⊎_elim
    (λ first. let zeroth : client ≡ 0 = omega arith in ⊎_elim
    (λ fit. let s : Version = record { number = n; fits = fit } in subst P (sym (version_next client a b s zeroth refl)) (lowest_some client a b s zeroth refl))
    (λ over. subst P (sym (cond-true (client == 0) (version n) None (eq-eqb client 0 zeroth) ∙ version_none n over)) (λ u c. omega (arith, u.fits, above_higher client a b u c)))
    (cases_lt n (2 ^ 8)))
    (λ other. subst P (sym (cond-false (client == 0) (version n) None (other_client client other))) (λ u c. omega (arith, c.owned)))
    (cases_lt client 1)

-- versions keep the laws of timestamps
pub version_laws : TimestampLaws version_above version_owner version_lowest version_successor
version_laws = record {
  irreflexive = λ s. grind (arith, nat_tests);
  transitive = λ s t u p q. grind (arith, nat_tests);
  total = λ s t p q. version_equal s t (omega (arith, ltb-false t.number s.number p, ltb-false s.number t.number q));
  lowest_below = λ s. grind (arith, nat_tests);
  successor_lowest = lowest_next;
}

-- a next number is the one after top, of client 0
pub next_found : (client top n : ℕ) → Some n ≡ next_number client top → (client ≡ 0) × (n ≡ top + 1)
next_found client top n e = (grind (arith, nat_tests), grind (arith, nat_tests))
