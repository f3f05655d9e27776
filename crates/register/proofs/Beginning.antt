-- A client that begins an operation, over the memory of all clients. Assumes nothing.
use Rattle.std.proofs.Common.{◌≡◌, ℕ, ◌+◌, ◌*◌, ◌<◌, ◌≤◌, not, ltb, leb, List, [], ◌∷◌, length, get_or, drop, set, replicate, Ok, Err, Result, sym, refl, ap, ◌∙◌, arith, Option, None}
use borrow.Rule.Slice.PartMut.{put_mid}
use Rattle.std.proofs.lemmas.List.{drop-set-lt, set-get_or, length-take-le, length-drop}
use Rattle.std.proofs.lemmas.Slice.{take-put_mid_below, drop-put_mid}
use Rattle.calls.specs.Refusals.{first_failed}
use Rattle.calls.specs.declared.Answer.{Answer}
use Rattle.calls.specs.declared.Refusal.{Refusal}
use Rattle.calls.specs.declared.Refusal.TheVariants.{OperationOpen, NumbersUsedUp, NetworkFull}
use Rattle.reading.specs.Reports.{Report}
use Rattle.reading.specs.Readings.{Reading, updated}
use Rattle.reading.specs.Reports.{view}
use Rattle.protocol.specs.Settings.{Setting, setting}
use Rattle.protocol.specs.Clients as protocol
use Rattle.client.specs.Showing.{phase_of, client_of, outcome_of}
use Rattle.client.specs.Taking.{is_resting, begin_refusal, BegunWrite, BegunRead}
use Rattle.client.specs.declared.state.Client.{Client}
use Rattle.client.specs.declared.state.Phase.{Phase}
use Rattle.client.specs.declared.state.Phase.TheVariants as phase
use Rattle.client.specs.declared.state.Broadcast.{Broadcast}
use Rattle.delivery.specs.Memory.{part, new_client}
use Rattle.delivery.specs.Parts.{clients_in}
use Rattle.delivery.proofs.Parts.{part_own, part_kept}
use Rattle.delivery.proofs.Attending.{client_at, clients_put}
use Rattle.register.specs.Beginning.{client_refuses, BegunAt, ReadReports}

-- a client that rests is idle
rests_idle : {S V : Type 0} (p : Phase S V) (known : Reading S V) → is_resting p ≡ protocol.is_idle (phase_of p known)
rests_idle phase.Idle known = refl
rests_idle (phase.Asking value told highest) known = refl
rests_idle (phase.Storing timestamp value acknowledged) known = refl
rests_idle phase.Reading known = refl

module _ {S V : Type 0} (K : Setting S V) (cs : List (Client S V)) (ps : List (Report S V)) (c room : ℕ) (within : c < K.client_count) (there : c < length cs)
    (inside : c * (K.rules.n * (K.rules.n + 1)) + K.rules.n * (K.rules.n + 1) ≤ length ps) where
  -- the setting of the client's own contracts
  abbrev bare : Setting S V
  bare = setting 0 0 0 K.rules K.owner K.lowest K.successor K.initial

  -- the client and its reports
  abbrev own : Client S V
  own = get_or cs c (new_client K.lowest)

  abbrev known : List (Report S V)
  known = part (K.rules.n * (K.rules.n + 1)) ps c

  abbrev shows : List (Report S V) → Reading S V
  shows p = view K.rules.above (K.lowest, K.initial) K.rules.n p

  abbrev at_first : protocol.Client S V
  at_first = clients_in K K.client_count cs ps c

  known_long : length known ≡ K.rules.n * (K.rules.n + 1)
  known_long =
      let rest = length-drop (c * (K.rules.n * (K.rules.n + 1))) ps in
      length-take-le (K.rules.n * (K.rules.n + 1)) (drop (c * (K.rules.n * (K.rules.n + 1))) ps) (omega arith)

  shown_as : client_of own (shows known) ≡ at_first
  shown_as = sym (client_at K K.client_count cs ps c within there inside)

  -- the client's own checks
  refuses_as : begin_refusal bare (K.lowest, K.initial) own room ≡ client_refuses K at_first room
  refuses_as =
      ap (λ t. first_failed ((not t, OperationOpen) ∷ ((leb 4294967295 own.number, NumbersUsedUp) ∷ ((ltb room K.rules.n, NetworkFull) ∷ [])))) (rests_idle own.phase (shows known))
      ∙ ap (λ x. client_refuses K x room) shown_as

  -- a write begins
  pub begun_write_at : (v : V) (r : Result (Answer S V × Option (Broadcast S V)) Refusal) (x' : Client S V)
      → BegunWrite bare (K.lowest, K.initial) own c v room r x'
      → BegunAt K cs ps c (protocol.begins_write K c at_first v) room r (set cs c x') ps
  begun_write_at v (Ok given) x' begun =
      let out : outcome_of K.rules.n c (record { client = x'; answer = given.0; broadcast = given.1 }) (shows known) ≡ protocol.begins_write K c at_first v =
      begun.1 (shows known) ∙ ap (λ x. protocol.begins_write K c x v) shown_as in (
        sym refuses_as ∙ begun.0,
        record {
          clients_after =
              ap (clients_in K K.client_count (set cs c x')) (sym (part_kept (c * (K.rules.n * (K.rules.n + 1))) (K.rules.n * (K.rules.n + 1)) ps))
              ∙ clients_put K K.client_count cs ps c within there inside x' known known_long
              ∙ ap (λ o. updated (clients_in K K.client_count cs ps) c o.after) out;
          clients_rest = drop-set-lt K.client_count cs c x' within;
          answer_is = ap (λ o. o.answer) out;
          sent_is = ap (λ o. o.sent) out;
        },
      )
  begun_write_at v (Err e) x' begun = (
    sym refuses_as ∙ begun.0,
    ap (set cs c) begun.1 ∙ set-get_or cs c (new_client K.lowest),
    refl,
  )

  -- a read begins
  pub begun_read_at : (r : Result (Answer S V × Option (Broadcast S V)) Refusal) (x' : Client S V) (p' : List (Report S V)) → length p' ≡ K.rules.n * (K.rules.n + 1)
      → BegunRead bare (K.lowest, K.initial) own known c room r x' p'
      → BegunAt K cs ps c (protocol.begins_read K c at_first) room r (set cs c x') (put_mid (c * (K.rules.n * (K.rules.n + 1))) (K.rules.n * (K.rules.n + 1)) ps p')
      × ReadReports K c ps r (put_mid (c * (K.rules.n * (K.rules.n + 1))) (K.rules.n * (K.rules.n + 1)) ps p')
  begun_read_at (Ok given) x' p' long begun =
      let size = K.rules.n * (K.rules.n + 1) in
      let out : outcome_of K.rules.n c (record { client = x'; answer = given.0; broadcast = given.1 }) (shows p') ≡ protocol.begins_read K c at_first =
      begun.1 ∙ ap (λ x. protocol.begins_read K c x) shown_as in (
        (
          sym refuses_as ∙ begun.0,
          record {
            clients_after =
                clients_put K K.client_count cs ps c within there inside x' p' long ∙ ap (λ o. updated (clients_in K K.client_count cs ps) c o.after) out;
            clients_rest = drop-set-lt K.client_count cs c x' within;
            answer_is = ap (λ o. o.answer) out;
            sent_is = ap (λ o. o.sent) out;
          },
        ),
        record {
          only = record {
            before = take-put_mid_below (c * size) size ps p' (c * size) (omega arith) (omega arith);
            behind = drop-put_mid (c * size) size ps p' (c * size + size) (omega arith) (omega arith) long;
          };
          own = part_own size ps p' c inside long ∙ begun.2 ∙ ap (λ k. replicate k None) known_long;
        },
      )
  begun_read_at (Err e) x' p' long begun =
      let same = ap (put_mid (c * (K.rules.n * (K.rules.n + 1))) (K.rules.n * (K.rules.n + 1)) ps) begun.2 ∙ part_kept (c * (K.rules.n * (K.rules.n + 1))) (K.rules.n * (K.rules.n + 1)) ps in (
        (
          sym refuses_as ∙ begun.0,
          ap (set cs c) begun.1 ∙ set-get_or cs c (new_client K.lowest),
          same,
        ),
        same,
      )
