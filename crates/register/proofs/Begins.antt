-- A client begins an operation: the register's reply. Assumes nothing.
use Rattle.std.proofs.Common.{◌≡◌, ℕ, ◌+◌, ◌-◌, ◌*◌, ◌<◌, ◌≤◌, Bool, true, cond, not, ltb, leb, List, [], ◌∷◌, ◌++◌, length, take, drop, Some, None, Err, Option, sym, refl, ap, ◌∙◌, subst, ap₂, arith}
use Rattle.std.proofs.lemmas.List.{length-take-le}
use Rattle.std.proofs.lemmas.Bool.{ltb-false, lt-ltb, le-ltb}
use Rattle.calls.specs.Refusals.{first_failed, passed}
use Rattle.calls.proofs.Checks.{passes_first}
use Rattle.calls.specs.declared.Answer.{Answer}
use Rattle.calls.specs.declared.Answer.TheVariants.{Refused, Begun}
use Rattle.calls.specs.declared.Refusal.{Refusal}
use Rattle.calls.specs.declared.Refusal.TheVariants.{NoClient, OperationOpen, NumbersUsedUp, NetworkFull}
use Rattle.network.specs.Queues.{Room, Sent}
use Rattle.network.specs.declared.message.Message.{Message}
use Rattle.network.proofs.Sending.{drop_later}
use Rattle.quorums.specs.Sets.{members}
use Rattle.reading.specs.Reports.{Report}
use Rattle.protocol.specs.Settings.{Setting}
use Rattle.protocol.specs.Clients as protocol
use Rattle.protocol.specs.Protocol.{begin_checks, begin, by_outcome, unless}
use Rattle.client.specs.Showing.{messages_of}
use Rattle.client.specs.Taking.{sending}
use Rattle.client.specs.declared.state.Client.{Client}
use Rattle.client.specs.declared.state.Broadcast.{Broadcast}
use Rattle.client.proofs.Weighing.{length-messages}
use Rattle.delivery.specs.Memory.{Lent, lent, report_count, enough}
use Rattle.delivery.proofs.Parts.{part_end}
use Rattle.register.specs.declared.record.Register.{Register}
use Rattle.register.specs.Calling.{with_queue, network_of, state_of, Replied}
use Rattle.register.specs.Beginning.{client_refuses, BegunBy, BlankFor}
use Rattle.register.proofs.Enough.{parts, still_enough, room_left}
use Rattle.register.proofs.Replies.{one_refuses, accepted, refusing}

-- at most one message goes to each server
sending_few : {S V : Type 0} (n : ℕ) (d : Option (Broadcast S V)) → sending n d ≤ n
sending_few n None = omega arith
sending_few n (Some x) = omega arith

module _ {Q S V : Type 0} (K : Setting S V) (g : Register Q) (x : Lent S V) (much : enough K g.len x ≡ true) (last : K.most ≡ 4294967295) (c : ℕ) where
  -- the client before
  abbrev client : protocol.Client S V
  client = (state_of K g x).clients c

  -- the checks of the protocol, where the client is there
  begin_same : c < K.client_count → first_failed (begin_checks K (state_of K g x) c) ≡ client_refuses K client (K.capacity - g.len)
  begin_same inside =
      let p = parts K g.len x much in
      let rest : ℕ → ℕ → Option Refusal = λ most len.
      cond (not (protocol.is_idle client.phase)) (Some OperationOpen)
      (cond (leb most client.number) (Some NumbersUsedUp) (cond (ltb (K.capacity - len) K.rules.n) (Some NetworkFull) None)) in
      ap (λ t. cond (not t) (Some NoClient) (rest K.most (length (take g.len x.messages)))) (lt-ltb c K.client_count inside)
      ∙ ap₂ rest last (length-take-le g.len x.messages (omega arith))

  -- no such client
  pub client_missing : K.client_count ≤ c → (o : protocol.Outcome S V) → Replied K g x (begin K (state_of K g x) c o) (Refused NoClient) g x
  client_missing outside o =
      let P : Bool → Type 0 = λ t.
      Replied K g x (unless (cond (not t) (Some NoClient) (first_failed
      ((not (protocol.is_idle client.phase), OperationOpen)
      ∷ ((leb K.most client.number, NumbersUsedUp)
      ∷ ((ltb (K.capacity - length (take g.len x.messages)) K.rules.n, NetworkFull) ∷ [])))))
      (state_of K g x) (by_outcome K (state_of K g x) c (state_of K g x).queue o)) (Refused NoClient) g x in
      subst P (sym (le-ltb c K.client_count outside)) (refusing K g x NoClient much)

  -- refused, since there is no such client
  pub client_lacking : (o : protocol.Outcome S V) (e : Refusal) → passed (first_failed ((not (ltb c K.client_count), NoClient) ∷ [])) ≡ Err e
      → Replied K g x (begin K (state_of K g x) c o) (Refused e) g x
  client_lacking o e was =
      let w = one_refuses (ltb c K.client_count) NoClient e was in
      subst (λ d. Replied K g x (begin K (state_of K g x) c o) (Refused d) g x) (sym w.1) (client_missing (ltb-false c K.client_count w.0) o)

  module _ (inside : c < K.client_count) (o : protocol.Outcome S V) (cs : List (Client S V)) (ps : List (Report S V)) where
    -- the client refuses
    pub begin_refused : (e : Refusal) → client_refuses K client (K.capacity - g.len) ≡ Some e → cs ≡ x.clients → ps ≡ x.reports
        → Replied K g x (begin K (state_of K g x) c o) (Refused e) g (lent x.servers cs x.listeners x.messages ps)
    begin_refused e is same-clients same-reports =
        let σ = state_of K g x in
        let P : Option Refusal → List (Client S V) → List (Report S V) → Type 0 = λ u l q.
        Replied K g x (unless u σ (by_outcome K σ c σ.queue o)) (Refused e) g (lent x.servers l x.listeners x.messages q) in
        subst (λ u. P u cs ps) (sym is ∙ sym (begin_same inside))
        (subst (λ l. P (Some e) l ps) (sym same-clients) (subst (λ q. P (Some e) x.clients q) (sym same-reports) (refusing K g x e much)))

    -- there is room for what a client sends
    pub begin_room : client_refuses K client (K.capacity - g.len) ≡ None → (d : Option (Broadcast S V)) → g.capacity ≡ K.capacity → Room (network_of g) (length x.messages) (sending K.rules.n d)
    begin_room is d same =
        let p = parts K g.len x much in
        let a = passes_first (not (protocol.is_idle client.phase)) OperationOpen ((leb 4294967295 client.number, NumbersUsedUp) ∷ ((ltb (K.capacity - g.len) K.rules.n, NetworkFull) ∷ [])) is in
        let b = passes_first (leb 4294967295 client.number) NumbersUsedUp ((ltb (K.capacity - g.len) K.rules.n, NetworkFull) ∷ []) a.1 in
        let e = passes_first (ltb (K.capacity - g.len) K.rules.n) NetworkFull [] b.1 in
        let room : K.rules.n ≤ K.capacity - g.len = ltb-false (K.capacity - g.len) K.rules.n e.0 in
        let few : sending K.rules.n d ≤ K.rules.n = sending_few K.rules.n d in
        let fits : g.len ≤ K.capacity = p.standing in
        room_left K g x much same (sending K.rules.n d) (omega (arith, room, few, fits))

    -- the operation begins
    pub begun : (k : ℕ) → o.answer ≡ Begun c k → client_refuses K client (K.capacity - g.len) ≡ None
        → (given : Answer S V × Option (Broadcast S V)) → BegunBy K x.clients x.reports c o given cs ps
        → (g' : Register Q) (ms : List (Message S V)) → g.capacity ≡ K.capacity → g' ≡ with_queue g g'.len g.faulty
        → Sent (network_of g) x.messages (messages_of K.rules.n c given.1) (network_of g') ms
        → length cs ≡ length x.clients → length ps ≡ length x.reports
        → drop (K.client_count * report_count K) ps ≡ drop (K.client_count * report_count K) x.reports
        → Replied K g x (begin K (state_of K g x) c o) given.0 g' (lent x.servers cs x.listeners ms ps)
    begun k answer is given by g' ms same kept sent long-clients long-reports rest =
        let σ = state_of K g x in
        let x' = lent x.servers cs x.listeners ms ps in
        let room = begin_room is given.1 same in
        let len_is : g'.len ≡ g.len + length (messages_of K.rules.n c given.1) = ap (λ net. net.len) sent.record_after in
        let counted = length-messages K.rules.n c given.1 in
        let faulty_is : g'.faulty ≡ g.faulty = ap (λ h. h.faulty) kept in
        let P : Option Refusal → Type 0 = λ u. Replied K g x (unless u σ (by_outcome K σ c σ.queue o)) given.0 g' x' in
        subst P (sym is ∙ sym (begin_same inside))
        (accepted K g x (by_outcome K σ c σ.queue o) given.0 g' x' much
        (record {
          answer_is = by.answer_is;
          state_after = λ i. record {
            faulty = (ap (λ f. members f) faulty_is) i;
            servers = σ.servers;
            clients = by.clients_after i;
            queue = (sent.queue_after ∙ ap (λ l. take g.len x.messages ++ l) by.sent_is) i;
          };
          enough_after = still_enough K g.len x much g'.len x' (omega (arith, len_is, counted, room.left, same))
              (λ i. record { servers = length x.servers; clients = long-clients i; listeners = length x.listeners; messages = sent.length_after i; reports = long-reports i });
          rest_after = record { servers_rest = refl; clients_rest = by.clients_rest; listeners_rest = refl; messages_rest = sent.rest_after; reports_rest = rest };
          refused_kept = λ e clash.
              let wrong : ◌≡◌ {A = Answer S V} (Begun c k) (Refused e) = sym answer ∙ sym by.answer_is ∙ clash in
              let z : ◌≡◌ {A = ℕ} 0 1 = cc in
              absurd (omega arith);
        })
        (kept ∙ ap (λ f. with_queue g g'.len f) (sym faulty_is)))

-- where only one client's reports change, what lies past all of them stays
pub blank_rest : {S V : Type 0} (K : Setting S V) (c : ℕ) (ps ps' : List (Report S V)) → c < K.client_count → BlankFor K c ps ps'
    → drop (K.client_count * report_count K) ps' ≡ drop (K.client_count * report_count K) ps
blank_rest K c ps ps' inside blank =
    drop_later ps' ps (c * report_count K + report_count K) (K.client_count * report_count K) (part_end c K.client_count (report_count K) inside) blank.only.behind
