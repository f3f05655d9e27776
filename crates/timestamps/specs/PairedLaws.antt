-- Paired timestamps with equal parts are equal, and paired timestamps keep the laws. Assumes nothing.
use Rattle.std.specs.Prelude.{◌≡◌, ℕ, suc, ◌^◌, ◌<◌, ◌≤◌, Bool, true, false, T, Some, None, Option, nat_lt, refl}
use Rattle.std.proofs.Common.{sym, ap, subst, ◌∙◌, ⊎_elim, arith, leb→le}
use mathlib.Core.HLevel.{is_prop→PathP}
use Rattle.std.proofs.Math.Bridge.{le_prop}
use Rattle.std.proofs.lemmas.Bool.{true≢false, false≢true, cases_lt, lt-ltb, le-ltb, cond_both}
use Rattle.std.proofs.lemmas.Bool.Decides.{nat_tests}
use Rattle.timestamps.specs.declared.paired.Paired.{Paired}
use Rattle.timestamps.specs.Laws.{higher, fitting, Candidate, Next, TimestampLaws}
use Rattle.timestamps.specs.PairedOrder.{paired_above, paired_owner, paired_lowest, paired_when, paired, Made, next_count, paired_successor}

-- a paired timestamp is its count and its client
pub paired_equal : (s t : Paired) → s.count ≡ t.count → s.client ≡ t.client → s ≡ t
paired_equal s t e f = λ i. record {
  count = e i;
  client = f i;
  fits = is_prop→PathP (λ j. e j < 2 ^ 32) (λ j. le_prop) s.fits t.fits i;
  known = is_prop→PathP (λ j. f j < 64) (λ j. le_prop) s.known t.known i;
}

when_true : (s : Paired) (low few : Bool) (fit : T low → s.count < 2 ^ 32) (know : T few → s.client < 64) → low ≡ true → few ≡ true → paired_when s.count s.client low few fit know ≡ Some s
when_true s true true fit know e f = ap (λ (t : Paired). Some t) (paired_equal _ s refl refl)
when_true s true false fit know e f = absurd (false≢true f)
when_true s false few fit know e f = absurd (false≢true e)

over_count : (n client : ℕ) (low few : Bool) (fit : T low → n < 2 ^ 32) (know : T few → client < 64) → low ≡ false → paired_when n client low few fit know ≡ None
over_count n client true few fit know e = absurd (true≢false e)
over_count n client false few fit know e = refl

over_client : (n client : ℕ) (low few : Bool) (fit : T low → n < 2 ^ 32) (know : T few → client < 64) → few ≡ false → paired_when n client low few fit know ≡ None
over_client n client true true fit know e = absurd (true≢false e)
over_client n client true false fit know e = refl
over_client n client false few fit know e = refl

-- the timestamp of its own parts
pub paired_parts : (s : Paired) → paired s.count s.client ≡ Some s
paired_parts s =
    when_true s (nat_lt s.count (2 ^ 32)) (nat_lt s.client 64) (leb→le (suc s.count) (2 ^ 32)) (leb→le (suc s.client) 64)
    (lt-ltb s.count (2 ^ 32) s.fits) (lt-ltb s.client 64 s.known)

-- no timestamp has a count from 2 ^ 32 on
pub paired_no_count : (n client : ℕ) → 2 ^ 32 ≤ n → paired n client ≡ None
paired_no_count n client h = over_count n client (nat_lt n (2 ^ 32)) (nat_lt client 64) (leb→le (suc n) (2 ^ 32)) (leb→le (suc client) 64) (le-ltb n (2 ^ 32) h)

-- no timestamp has a client from 64 on
pub paired_no_client : (n client : ℕ) → 64 ≤ client → paired n client ≡ None
paired_no_client n client h = over_client n client (nat_lt n (2 ^ 32)) (nat_lt client 64) (leb→le (suc n) (2 ^ 32)) (leb→le (suc client) 64) (le-ltb client 64 h)

-- what is made of a count and a client is their timestamp
pub made_paired : (n client : ℕ) (r : Option Paired) → Made n client r → r ≡ paired n client
made_paired n client (Some s) m = sym (paired_parts s) ∙ ap (λ k. paired k s.client) m.0 ∙ ap (λ k. paired n k) m.1
made_paired n client None m = sym (paired_no_client n client m)

above_both : (a b s : Paired) → paired_above s (higher paired_above a b) ≡ true → (paired_above s a ≡ true) × (paired_above s b ≡ true)
above_both a b s h = (grind (arith, nat_tests), grind (arith, nat_tests))

above_higher : (client : ℕ) (a b u : Paired) → Candidate paired_above paired_owner client a b u → paired_above u (higher paired_above a b) ≡ true
above_higher client a b u c = cond_both (paired_above b a) b a (λ t. paired_above u t ≡ true) (λ _. c.above_second) (λ _. c.above_first)

-- a next count is above top, and no timestamp of the client above top has a lower one
stepped : (client : ℕ) (top s : Paired) → s.client ≡ client → s.count ≡ next_count client top → paired_above s top ≡ true
stepped client top s o e = grind (arith, nat_tests)

none_between : (client : ℕ) (top u : Paired) → u.client ≡ client → paired_above u top ≡ true → next_count client top ≤ u.count
none_between client top u o h = grind (arith, nat_tests)

candidate_from : (client : ℕ) (a b u : Paired) → Candidate paired_above paired_owner client a b u → next_count client (higher paired_above a b) ≤ u.count
candidate_from client a b u c = none_between client (higher paired_above a b) u c.owned (above_higher client a b u c)

not_below : (s u : Paired) → s.client ≡ u.client → s.count ≤ u.count → paired_above s u ≡ false
not_below s u o h = grind (arith, nat_tests)

lowest_some : (client : ℕ) (a b s : Paired) → s.client ≡ client → s.count ≡ next_count client (higher paired_above a b) → Next paired_above paired_owner client a b (Some s)
lowest_some client a b s o e =
    let over = above_both a b s (stepped client (higher paired_above a b) s o e) in (
      record { owned = o; above_first = over.0; above_second = over.1 },
      λ u c. not_below s u (o ∙ sym c.owned) (omega (arith, e, candidate_from client a b u c)),
    )

-- the successor is the lowest of its client above both, and there is none exactly where it has none
pub paired_lowest_next : (client : ℕ) (a b : Paired) → Next paired_above paired_owner client a b (paired_successor client a b)
paired_lowest_next client a b =
    let P : Option Paired → Type 0 = Next paired_above paired_owner client a b in
    let n = next_count client (higher paired_above a b) in
    ⊎_elim
    (λ owns. ⊎_elim
    (λ fit. let s : Paired = record { count = n; client = client; fits = fit; known = owns } in subst P (sym (paired_parts s)) (lowest_some client a b s refl refl))
    (λ over. subst P (sym (paired_no_count n client over)) (λ u c. omega (arith, u.fits, candidate_from client a b u c)))
    (cases_lt n (2 ^ 32)))
    (λ over. subst P (sym (paired_no_client n client over)) (λ u c. omega (arith, u.known, c.owned)))
    (cases_lt client 64)

-- paired timestamps keep the laws
pub paired_laws : TimestampLaws paired_above paired_owner paired_lowest paired_successor
paired_laws = record {
  irreflexive = λ s. grind (arith, nat_tests);
  transitive = λ s t u p q. grind (arith, nat_tests);
  total = λ s t p q. paired_equal s t (grind (arith, nat_tests)) (grind (arith, nat_tests));
  lowest_below = λ s. grind (arith, nat_tests);
  successor_lowest = paired_lowest_next;
}

-- what the client's count after top makes is the successor
pub made_next : (client n : ℕ) (a b top : Paired) (r : Option Paired) → Made n client r → Some n ≡ fitting (2 ^ 32) (next_count client top) → top ≡ higher paired_above a b → r ≡ paired_successor client a b
made_next client n a b top r m e t =
    let same : n ≡ next_count client top = grind (arith, nat_tests) in
    made_paired n client r m ∙ ap (λ k. paired k client) same ∙ ap (λ p. paired (next_count client p) client) t
