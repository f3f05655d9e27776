-- A message at its client, over the memory of all clients. Assumes nothing.
use Rattle.std.proofs.Common.{◌≡◌, ℕ, ◌+◌, ◌*◌, ◌<◌, ◌≤◌, Bool, true, false, cond, not, eqb, ltb, leb, List, [], ◌∷◌, length, Option, get_or, set, Some, Ok, Err, Result, sym, refl, ap, ◌∙◌, ap₂, inl, inr, arith}
use mathlib.Core.Path.{fun_ext}
use borrow.Rule.Slice.PartMut.{put_mid}
use Rattle.std.proofs.lemmas.List.{get_or-set_same, get_or-set_other, set-get_or, drop-set-lt, length-set}
use Rattle.std.proofs.lemmas.Slice.{drop-put_mid, take-put_mid_below}
use Rattle.std.proofs.lemmas.Bool.{cases_eq, cond-true, cond-false, lt-ltb, le-leb, eq-eqb, ne_eqb, and_from, ltb-false, ltb-true}
use Rattle.calls.specs.Refusals.{first_failed}
use Rattle.calls.specs.declared.Answer.{Answer}
use Rattle.calls.specs.declared.Refusal.{Refusal}
use Rattle.calls.specs.declared.Refusal.TheVariants.{Memory, NetworkFull}
use Rattle.calls.proofs.Checks.{passes_first}
use Rattle.network.specs.declared.message.Kind.{Kind}
use Rattle.network.specs.declared.message.Message.{Message}
use Rattle.reading.specs.Reports.{Report}
use Rattle.reading.specs.Readings.{updated, unread}
use Rattle.reading.specs.Reports.{view}
use Rattle.reading.specs.Hearing.{enough_memory}
use Rattle.protocol.specs.Settings.{Setting}
use Rattle.protocol.specs.Clients as protocol
use Rattle.protocol.specs.Clients.{takes}
use Rattle.client.specs.Showing.{client_of}
use Rattle.client.specs.Taking.{hears_value, expected, TakenIn}
use Rattle.client.specs.declared.state.Client.{Client}
use Rattle.client.specs.declared.state.Broadcast.{Broadcast}
use Rattle.delivery.specs.Memory.{part, new_client}
use Rattle.delivery.specs.Parts.{clients_in, client_takes, ClientsKept, Attended}
use Rattle.delivery.proofs.Parts.{part_own, part_other, part_kept, length-put_mid}

module _ {S V : Type 0} (K : Setting S V) (m : ℕ) (cs : List (Client S V)) (ps : List (Report S V)) (c : ℕ) (within : c < m) (there : c < length cs)
    (inside : c * (K.rules.n * (K.rules.n + 1)) + K.rules.n * (K.rules.n + 1) ≤ length ps) where
  -- what a client of these reports is
  abbrev showing : Client S V → List (Report S V) → protocol.Client S V
  showing x p = client_of x (view K.rules.above (K.lowest, K.initial) K.rules.n p)

  -- the client and its reports, as the protocol sees them
  pub client_at : clients_in K m cs ps c ≡ showing (get_or cs c (new_client K.lowest)) (part (K.rules.n * (K.rules.n + 1)) ps c)
  client_at =
      cond-true (ltb c m) (showing (get_or cs c (new_client K.lowest)) (part (K.rules.n * (K.rules.n + 1)) ps c))
      (client_of (new_client K.lowest) (unread K.lowest K.initial)) (lt-ltb c m within)

  -- one client and its reports become others
  pub clients_put : (x : Client S V) (p : List (Report S V)) → length p ≡ K.rules.n * (K.rules.n + 1)
      → clients_in K m (set cs c x) (put_mid (c * (K.rules.n * (K.rules.n + 1))) (K.rules.n * (K.rules.n + 1)) ps p) ≡ updated (clients_in K m cs ps) c (showing x p)
  clients_put x p long = fun_ext (λ u. at u)
    where
      size : ℕ
      size = K.rules.n * (K.rules.n + 1)

      first : Client S V
      first = new_client K.lowest

      at : (u : ℕ) → clients_in K m (set cs c x) (put_mid (c * size) size ps p) u ≡ updated (clients_in K m cs ps) c (showing x p) u
      at u = elim (cases_eq u c) [
        | inl same ↦
            ap (λ k. clients_in K m (set cs c x) (put_mid (c * size) size ps p) k) same
            ∙ cond-true (ltb c m) (showing (get_or (set cs c x) c first) (part size (put_mid (c * size) size ps p) c)) (client_of first (unread K.lowest K.initial)) (lt-ltb c m within)
            ∙ ap₂ (λ y q. showing y q) (get_or-set_same cs c x first there) (part_own size ps p c inside long)
            ∙ sym (cond-true (eqb c u) (showing x p) (clients_in K m cs ps u) (eq-eqb c u (sym same)))
        | inr other ↦
            ap₂ (λ y q. cond (ltb u m) (showing y q) (client_of first (unread K.lowest K.initial))) (get_or-set_other cs c u x first other) (part_other size ps p c u inside long other)
            ∙ sym (cond-false (eqb c u) (showing x p) (clients_in K m cs ps u) (ne_eqb c u (λ e. other (sym e))))
      ]

-- of two checks of which the first passes, the second decides
second_decides : (t : Bool) (e : Refusal) → first_failed ((false, Memory) ∷ ((t, NetworkFull) ∷ [])) ≡ Some e → (e ≡ NetworkFull) × (t ≡ true)
second_decides true e is = (cc, refl)
second_decides false e is = let z : ◌≡◌ {A = ℕ} 0 1 = cc in absurd (omega arith)

module _ {S V : Type 0} (K : Setting S V) (m : ℕ) (cs : List (Client S V)) (ps : List (Report S V)) (message : Message S V) (kind : Kind) (room : ℕ)
    (within : message.client < m) (there : message.client < length cs) (server : message.server < K.rules.n)
    (inside : message.client * (K.rules.n * (K.rules.n + 1)) + K.rules.n * (K.rules.n + 1) ≤ length ps)
    (long : length (part (K.rules.n * (K.rules.n + 1)) ps message.client) ≡ K.rules.n * (K.rules.n + 1)) where
  -- the client and its reports
  abbrev own : Client S V
  own = get_or cs message.client (new_client K.lowest)

  abbrev known : List (Report S V)
  known = part (K.rules.n * (K.rules.n + 1)) ps message.client

  -- what they make of the message
  takes_as : expected K (K.lowest, K.initial) own known message kind ≡ client_takes K m cs ps message kind
  takes_as = ap (λ x. takes K kind x message) (sym (client_at K m cs ps message.client within there inside))

  -- the reports suffice for the message
  enough : not (enough_memory K.rules.n known message.server) ≡ false
  enough =
      ap not (and_from (leb (K.rules.n * (K.rules.n + 1)) (length known)) (ltb message.server K.rules.n)
      (le-leb (K.rules.n * (K.rules.n + 1)) (length known) (omega (arith, long))) (lt-ltb message.server K.rules.n server))

  -- a changed client and its changed reports leave the rest of the memory as it was
  pub kept : (x' : Client S V) (p' : List (Report S V)) → length p' ≡ K.rules.n * (K.rules.n + 1) → (hears_value own message kind ≡ false → p' ≡ known)
      → ClientsKept K m cs ps message kind (set cs message.client x') (put_mid (message.client * (K.rules.n * (K.rules.n + 1))) (K.rules.n * (K.rules.n + 1)) ps p')
  kept x' p' same unheard =
      let size = K.rules.n * (K.rules.n + 1) in
      record {
        clients_rest = drop-set-lt m cs message.client x' within;
        reports_only = record {
          before = take-put_mid_below (message.client * size) size ps p' (message.client * size) (omega arith) (omega arith);
          behind = drop-put_mid (message.client * size) size ps p' (message.client * size + size) (omega arith) (omega arith) same;
        };
        unheard = λ deaf. ap (put_mid (message.client * size) size ps) (unheard deaf) ∙ part_kept (message.client * size) size ps;
        clients_length = length-set cs message.client x';
        reports_length = length-put_mid (message.client * size) size ps p' inside same;
      }

  -- what a client's call promises of its part, it promises of the whole
  pub attended : (r : Result (Answer S V × Option (Broadcast S V)) Refusal) (x' : Client S V) (p' : List (Report S V)) → length p' ≡ K.rules.n * (K.rules.n + 1)
      → TakenIn K (K.lowest, K.initial) own known message kind room r x' p'
      → Attended K m cs ps message kind room r (set cs message.client x') (put_mid (message.client * (K.rules.n * (K.rules.n + 1))) (K.rules.n * (K.rules.n + 1)) ps p')
  attended (Ok given) x' p' same taken =
      let size = K.rules.n * (K.rules.n + 1) in
      let e = expected K (K.lowest, K.initial) own known message kind in
      let full = passes_first (not (enough_memory K.rules.n known message.server)) Memory ((ltb room (length e.sent), NetworkFull) ∷ []) taken.0 in
      let fit = passes_first (ltb room (length e.sent)) NetworkFull [] full.1 in
      let few = ltb-false room (length e.sent) fit.0 in
      let counted = ap (λ o. length o.sent) takes_as in
      record {
        fits = omega (arith, few, counted);
        clients_after =
            clients_put K m cs ps message.client within there inside x' p' same
            ∙ ap (updated (clients_in K m cs ps) message.client) (ap (λ o. o.after) taken.1 ∙ ap (λ o. o.after) takes_as);
        answer_is = ap (λ o. o.answer) taken.1 ∙ ap (λ o. o.answer) takes_as;
        sent_is = ap (λ o. o.sent) taken.1 ∙ ap (λ o. o.sent) takes_as;
      }
  attended (Err refusal) x' p' same taken =
      let e = expected K (K.lowest, K.initial) own known message kind in
      let only : first_failed ((false, Memory) ∷ ((ltb room (length e.sent), NetworkFull) ∷ [])) ≡ Some refusal =
      ap (λ t. first_failed ((t, Memory) ∷ ((ltb room (length e.sent), NetworkFull) ∷ []))) (sym enough) ∙ taken.0 in
      let why = second_decides (ltb room (length e.sent)) refusal only in
      let many = ltb-true room (length e.sent) why.1 in
      let counted = ap (λ o. length o.sent) takes_as in (
        why.0,
        omega (arith, many, counted),
        ap (set cs message.client) taken.1 ∙ set-get_or cs message.client (new_client K.lowest),
        ap (put_mid (message.client * (K.rules.n * (K.rules.n + 1))) (K.rules.n * (K.rules.n + 1)) ps) taken.2 ∙ part_kept (message.client * (K.rules.n * (K.rules.n + 1))) (K.rules.n * (K.rules.n + 1)) ps,
      )
