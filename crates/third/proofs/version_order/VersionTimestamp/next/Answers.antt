use Rattle.std.proofs.Common.{rules, ◌≡◌, ◌≤◌, ◌+◌, ◌^◌, ◌==◌, ℕ, Option, Some, None, sym, ap, ◌∙◌, subst, inl, inr, arith}
use Rattle.std.specs.Option.{MatchOption, IsSomeAnd}
use Rattle.std.proofs.lemmas.Bool.{cases_lt, cond-true, cond-false, eq-eqb}
use Rattle.std.proofs.lemmas.Bool.Decides.{nat_tests}
use Rattle.timestamps.specs.Laws.{higher, Next}
use Rattle.third.specs.declared.version.Version.{Version}
use Rattle.third.specs.VersionOrder.{version, version_above, version_owner, version_successor, next_number}
use Rattle.third.specs.VersionLaws.{version_next, version_none, version_laws, next_found, other_client}
use Rattle.third.proofs.version_order.VersionTimestamp.next.Goals as goal

no_room : (client top : ℕ) → client ≡ 0 → None ≡ next_number client top → 2 ^ 8 ≤ top + 1
no_room client top first e = grind (arith, nat_tests)

-- where there is no next number, no version is after both
no_successor : (client : ℕ) (a b : Version) → None ≡ next_number client (higher version_above a b).number → version_successor client a b ≡ None
no_successor client a b e =
    let n = (higher version_above a b).number + 1 in
    elim (cases_lt client 1) [
      | inl l ↦
          let first : client ≡ 0 = omega (arith, l) in
          cond-true (client == 0) (version n) None (eq-eqb client 0 first) ∙ version_none n (no_room client (higher version_above a b).number first e)
      | inr l ↦ cond-false (client == 0) (version n) None (other_client client l)
    ]

-- the version of the next number is the successor
made_next : (client : ℕ) (a b : Version) (n : Option ℕ) (r : Option Version) → n ≡ next_number client (higher version_above a b).number
    → MatchOption n (r ≡ None) (λ number. IsSomeAnd r (λ (s : Version). s.number ≡ number)) → r ≡ version_successor client a b
made_next client a b None r e made = made ∙ sym (no_successor client a b e)
made_next client a b (Some n) None e made = absurd made
made_next client a b (Some n) (Some s) e made =
    let found = next_found client (higher version_above a b).number n e in
    sym (version_next client a b s found.0 (made ∙ found.1))

pub returns : goal.returns
returns c =
    let client = c.args.client in
    let a = c.args.a in
    let b = c.args.b in
    let top : c.max.result ≡ higher version_above a b = search rules in
    let number = c.number_after.ensures ∙ ap (λ (t : Version). next_number client t.number) top in
    let exact = made_next client a b c.number_after.result c.map.result number c.map.ensures.cases in
    record { exact = exact; least = subst (Next version_above version_owner client a b) (sym exact) (version_laws.successor_lowest client a b) }
