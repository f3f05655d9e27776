-- A lifted message at its server or its client, over the whole memory. Assumes nothing.
use Rattle.std.proofs.Common.{◌≡◌, ℕ, ◌+◌, ◌-◌, ◌*◌, ◌<◌, ◌≤◌, true, false, cond, ◌&&◌, eqb, ltb, List, length, get_or, take, drop, Some, sym, refl, ap, ◌∙◌, ap₂, inl, inr, arith}
use Rattle.std.specs.List.{remove}
use Rattle.std.proofs.lemmas.Bool.{cases_Bool, cond-true, cond-false, and_parts, and_from, lt-ltb, ltb-false}
use Rattle.std.proofs.lemmas.Bool.Decides.{nat_tests}
use Rattle.calls.specs.declared.Answer.{Answer}
use Rattle.calls.specs.declared.Answer.TheVariants.{Taken, Refused}
use Rattle.calls.specs.declared.Refusal.{Refusal}
use Rattle.calls.specs.declared.Refusal.TheVariants.{NetworkFull}
use Rattle.network.specs.Kinds.{byte_of, kind_of}
use Rattle.network.specs.Queues.{fits}
use Rattle.network.specs.declared.message.Kind.{Kind}
use Rattle.network.specs.declared.message.Kind.TheVariants.{Query, Ts, Store, Ack, Read, Value, Stop}
use Rattle.network.specs.declared.message.Message.{Message}
use Rattle.network.specs.declared.queue.Network.{Network}
use Rattle.quorums.specs.Sets.{members}
use Rattle.quorums.specs.declared.sets.ServerSet.{ServerSet}
use Rattle.reading.specs.Reports.{Report}
use Rattle.reading.specs.Readings.{Reading, unread}
use Rattle.reading.specs.Reports.{view}
use Rattle.server.specs.declared.state.Listener.{Listener}
use Rattle.server.specs.declared.state.Server.{Server}
use Rattle.protocol.specs.Settings.{Setting}
use Rattle.protocol.specs.Clients as protocol
use Rattle.protocol.specs.Protocol.{State, Reply, from_server, refused, overfull, by_outcome, by_reaction, at_server, at_client, handed}
use Rattle.client.specs.Showing.{client_of, phase_of}
use Rattle.client.specs.Taking.{hears_value, is_value}
use Rattle.client.specs.Taking as taking
use Rattle.client.specs.declared.state.Client.{Client}
use Rattle.client.specs.declared.state.Phase.{Phase}
use Rattle.client.specs.declared.state.Phase.TheVariants as phase
use Rattle.delivery.specs.Sizes.{within_limits, room_for, enough_for}
use Rattle.delivery.specs.Memory.{part, Lent, lent, sizes_of, report_count, state_in, enough, new_client}
use Rattle.delivery.specs.Parts.{client_takes, ServersAfter, ClientsAfter}
use Rattle.delivery.specs.Answering.{is_reading, hears, Answered}
use Rattle.delivery.specs.Handing.{room_without, Replaced, NoRoom, ToServer, ToClient, Handed}
use Rattle.network.proofs.Sending.{drop_later}
use Rattle.delivery.proofs.Parts.{part_end}
use Rattle.delivery.proofs.Queues.{fitting, length_without}
use Rattle.delivery.proofs.Taking.{plain, takes_same, takes_not}

-- a shorter or longer queue within its capacity
limits_kept : (m capacity len len' messages : ℕ) → within_limits m capacity len messages ≡ true → len' ≤ capacity → within_limits m capacity len' messages ≡ true
limits_kept m capacity len len' messages was few = grind (arith, nat_tests)

-- a phase in which the client reads
reading_as : {S V : Type 0} (f : Phase S V) (known : Reading S V) → is_reading (phase_of f known) ≡ taking.is_reading f
reading_as phase.Idle known = refl
reading_as (phase.Asking v told t) known = refl
reading_as (phase.Storing t v acks) known = refl
reading_as phase.Reading known = refl

-- a VALUE by its byte
value_as : (byte : ℕ) (kind : Kind) → kind_of byte ≡ Some kind → eqb byte (byte_of Value) ≡ is_value kind
value_as byte Query is = grind (arith, nat_tests)
value_as byte Ts is = grind (arith, nat_tests)
value_as byte Store is = grind (arith, nat_tests)
value_as byte Ack is = grind (arith, nat_tests)
value_as byte Read is = grind (arith, nat_tests)
value_as byte Value is = grind (arith, nat_tests)
value_as byte Stop is = grind (arith, nat_tests)

-- what a client hears, by its record
hears_as : {S V : Type 0} (x : Client S V) (known : Reading S V) (m : Message S V) (kind : Kind) → kind_of m.kind ≡ Some kind → hears (client_of x known) m ≡ hears_value x m kind
hears_as x known m kind is = ap₂ (λ s t. s && (eqb m.number x.number && t)) (reading_as x.phase known) (value_as m.kind kind is)

module _ {S V : Type 0} (K : Setting S V) where
  -- memory that is enough stays enough
  enough_kept : (len len' : ℕ) (x x' : Lent S V) → sizes_of x' ≡ sizes_of x → len' ≤ K.capacity → enough K len x ≡ true → enough K len' x' ≡ true
  enough_kept len len' x x' same few was =
      let both = and_parts (within_limits K.client_count K.capacity len (length x.messages)) (room_for K.rules.n K.client_count (sizes_of x)) was in
      ap (enough_for K.rules.n K.client_count K.capacity len') same
      ∙ and_from (within_limits K.client_count K.capacity len' (length x.messages)) (room_for K.rules.n K.client_count (sizes_of x))
      (limits_kept K.client_count K.capacity len len' (length x.messages) both.0 few) both.1

  -- a refusal that changes nothing
  pub kept_answered : (len len' : ℕ) (faulty : ServerSet) (x x' : Lent S V) (reply : Reply S V) (r : Answer S V) (e : Refusal)
      → reply ≡ refused (state_in K len faulty x) e → r ≡ Refused e → len' ≡ len → x' ≡ x → enough K len x ≡ true → Answered K len faulty x reply r len' faulty x'
  kept_answered len len' faulty x x' reply r e reply_is r_is len_is x-is was = record {
    answer_is = r_is ∙ ap (λ y. y.answer) (sym reply_is);
    state_after = ap₂ (λ k y. state_in K k faulty y) len_is x-is ∙ ap (λ y. y.state) (sym reply_is);
    enough_after = ap₂ (λ k y. enough K k y) len_is x-is ∙ was;
    rest_after = record {
      servers_rest = ap (λ y. drop K.rules.n y.servers) x-is;
      clients_rest = ap (λ y. drop K.client_count y.clients) x-is;
      listeners_rest = ap (λ y. drop (K.rules.n * K.client_count) y.listeners) x-is;
      messages_rest = ap (λ y. drop len' y.messages) x-is;
      reports_rest = ap (λ y. drop (K.client_count * report_count K) y.reports) x-is;
    };
    refused_kept = λ _ _. (len_is, refl, x-is);
  }

  pub kept_handed : (len len' : ℕ) (faulty : ServerSet) (x x' : Lent S V) (message : Message S V) (reply : Reply S V) (r : Answer S V) (e : Refusal)
      → reply ≡ refused (state_in K len faulty x) e → r ≡ Refused e → len' ≡ len → x' ≡ x → enough K len x ≡ true → Handed K len faulty x message reply r len' x'
  kept_handed len len' faulty x x' message reply r e reply_is r_is len_is x-is was = record {
    answered = kept_answered len len' faulty x x' reply r e reply_is r_is len_is x-is was;
    reports_after = record {
      only = record {
        before = ap (λ y. take (message.client * report_count K) y.reports) x-is;
        behind = ap (λ y. drop (message.client * report_count K + report_count K) y.reports) x-is;
      };
      unheard = λ _. ap (λ y. y.reports) x-is;
    };
  }

module _ {S V : Type 0} (K : Setting S V) (faulty : ServerSet) (ss : List (Server S V)) (cs : List (Client S V)) (ls : List (Listener S)) (memory : List (Message S V)) (ps : List (Report S V))
    (net : Network) (message : Message S V) (kind : Kind) (place : ℕ)
    (fit : fits net (length memory) ≡ true) (is : net.lifted ≡ Some place) (capacity_is : K.capacity ≡ net.capacity)
    (was : enough K net.len (lent ss cs ls memory ps) ≡ true) where
  abbrev before : State S V
  before = state_in K net.len faulty (lent ss cs ls memory ps)

  abbrev rest : List (Message S V)
  rest = remove (take net.len memory) place

  -- the room that the protocol counts
  room_is : (more : ℕ) → overfull K (length rest) more ≡ ltb (room_without net) more
  room_is more = ap₂ (λ c k. ltb (c - k) more) capacity_is (length_without net memory place fit is)

  -- what is sent leaves the queue within its capacity
  len_fits : (net' : Network) (memory' sent : List (Message S V)) → Replaced net memory place sent net' memory' → ltb (room_without net) (length sent) ≡ false → net'.len ≤ K.capacity
  len_fits net' memory' sent done few =
      let f = fitting net (length memory) place fit is in
      let len_is : net'.len ≡ net.len - 1 + length sent = ap (λ n. n.len) done.record_after in
      let small = ltb-false (room_without net) (length sent) few in
      omega (arith, len_is, capacity_is, small, f.inside, f.few)

  -- no room: nothing changes
  no_room : (reply : Reply S V) (r : Answer S V) (ss' : List (Server S V)) (cs' : List (Client S V)) (ls' : List (Listener S)) (memory' : List (Message S V)) (ps' : List (Report S V)) (net' : Network)
      → reply ≡ refused before NetworkFull → NoRoom net memory r net' memory' → ss' ≡ ss → cs' ≡ cs → ls' ≡ ls → ps' ≡ ps
      → Handed K net.len faulty (lent ss cs ls memory ps) message reply r net'.len (lent ss' cs' ls' memory' ps')
  no_room reply r ss' cs' ls' memory' ps' net' reply_is none a b c d =
      kept_handed K net.len net'.len faulty (lent ss cs ls memory ps) (lent ss' cs' ls' memory' ps') message reply r NetworkFull reply_is none.answer_is
      (ap (λ n. n.len) none.record_kept)
      (λ i. record { servers = a i; clients = b i; listeners = c i; messages = none.memory_kept i; reports = d i }) was

  -- the client of the message takes it
  client_took : (reply : Reply S V) (r : Answer S V) (cs' : List (Client S V)) (ps' : List (Report S V)) (net' : Network) (memory' : List (Message S V))
      → message.client < K.client_count → kind_of message.kind ≡ Some kind
      → reply ≡ by_outcome K before message.client rest (client_takes (plain K) K.client_count cs ps message kind)
      → ltb (room_without net) (length (client_takes (plain K) K.client_count cs ps message kind).sent) ≡ false
      → ClientsAfter (plain K) K.client_count cs ps message kind r cs' ps'
      → Replaced net memory place (client_takes (plain K) K.client_count cs ps message kind).sent net' memory'
      → Handed K net.len faulty (lent ss cs ls memory ps) message reply r net'.len (lent ss cs' ls memory' ps')
  client_took reply r cs' ps' net' memory' within kind_is reply_is few known done =
      let size = report_count K in
      let o = client_takes (plain K) K.client_count cs ps message kind in
      let o_is = takes_same K kind (before.clients message.client) message in
      record {
        answered = record {
          answer_is = known.answer_is ∙ ap (λ y. y.answer) (sym reply_is);
          state_after =
              (λ i. record { faulty = before.faulty; servers = before.servers; clients = known.clients_after i; queue = done.queue_after i })
              ∙ ap (λ y. y.state) (sym reply_is);
          enough_after =
              enough_kept K net.len net'.len (lent ss cs ls memory ps) (lent ss cs' ls memory' ps')
              (λ i. record { servers = length ss; clients = known.clients_kept.clients_length i; listeners = length ls; messages = done.length_after i; reports = known.clients_kept.reports_length i })
              (len_fits net' memory' o.sent done few) was;
          rest_after = record {
            servers_rest = refl;
            clients_rest = known.clients_kept.clients_rest;
            listeners_rest = refl;
            messages_rest = done.rest_after;
            reports_rest = drop_later ps' ps (message.client * size + size) (K.client_count * size) (part_end message.client K.client_count size within) known.clients_kept.reports_only.behind;
          };
          refused_kept = λ e r_is. absurd (takes_not K kind (before.clients message.client) message e (ap (λ y. y.answer) (sym o_is) ∙ sym known.answer_is ∙ r_is));
        };
        reports_after = record {
          only = record { before = known.clients_kept.reports_only.before; behind = known.clients_kept.reports_only.behind };
          unheard = λ deaf. known.clients_kept.unheard (heard_by within kind_is deaf);
        };
      }
    where
      own : Client S V
      own = get_or cs message.client (new_client K.lowest)

      view_of : Reading S V
      view_of = view K.rules.above (K.lowest, K.initial) K.rules.n (part (report_count K) ps message.client)

      heard_by : message.client < K.client_count → kind_of message.kind ≡ Some kind → hears (before.clients message.client) message ≡ false → hears_value own message kind ≡ false
      heard_by there named deaf =
          sym (hears_as own view_of message kind named)
          ∙ ap (λ y. hears y message)
          (sym (cond-true (ltb message.client K.client_count) (client_of own view_of) (client_of (new_client K.lowest) (unread K.lowest K.initial)) (lt-ltb message.client K.client_count there)))
          ∙ deaf

  -- the server of the message takes it
  server_took : (reply : Reply S V) (r : Answer S V) (ss' : List (Server S V)) (ls' : List (Listener S)) (net' : Network) (memory' : List (Message S V))
      → reply ≡ by_reaction K before message.server rest (at_server K before message)
      → ltb (room_without net) (length (at_server K before message).sent) ≡ false
      → r ≡ Taken
      → ServersAfter K.rules.above K.lowest K.initial K.rules.n K.client_count (members faulty message.server) ss ls message ss' ls'
      → Replaced net memory place (at_server K before message).sent net' memory'
      → Handed K net.len faulty (lent ss cs ls memory ps) message reply r net'.len (lent ss' cs ls' memory' ps)
  server_took reply r ss' ls' net' memory' reply_is few r_is held done = record {
    answered = record {
      answer_is = r_is ∙ ap (λ y. y.answer) (sym reply_is);
      state_after =
          (λ i. record { faulty = before.faulty; servers = held.servers_after i; clients = before.clients; queue = done.queue_after i })
          ∙ ap (λ y. y.state) (sym reply_is);
      enough_after =
          enough_kept K net.len net'.len (lent ss cs ls memory ps) (lent ss' cs ls' memory' ps)
          (λ i. record { servers = held.servers_kept.servers_length i; clients = length cs; listeners = held.servers_kept.listeners_length i; messages = done.length_after i; reports = length ps })
          (len_fits net' memory' (at_server K before message).sent done few) was;
      rest_after = record {
        servers_rest = held.servers_kept.servers_rest;
        clients_rest = refl;
        listeners_rest = held.servers_kept.listeners_rest;
        messages_rest = done.rest_after;
        reports_rest = refl;
      };
      refused_kept = λ e refusal. let z : ◌≡◌ {A = ℕ} 0 1 = cc in absurd (omega arith);
    };
    reports_after = record { only = record { before = refl; behind = refl }; unheard = λ _. refl };
  }

  -- a message that a server sends goes to its client
  pub client_handed : (r : Answer S V) (cs' : List (Client S V)) (ps' : List (Report S V)) (net' : Network) (memory' : List (Message S V))
      → from_server kind ≡ true → message.client < K.client_count → kind_of message.kind ≡ Some kind
      → ToClient (plain K) K.client_count cs ps net memory message kind place r cs' ps' net' memory'
      → Handed K net.len faulty (lent ss cs ls memory ps) message (handed K before rest message kind) r net'.len (lent ss cs' ls memory' ps')
  client_handed r cs' ps' net' memory' comes within named to =
      let o = client_takes (plain K) K.client_count cs ps message kind in
      let mine = λ (y : protocol.Outcome S V). cond (overfull K (length rest) (length y.sent)) (refused before NetworkFull) (by_outcome K before message.client rest y) in
      let other = cond (overfull K (length rest) (length (at_server K before message).sent)) (refused before NetworkFull) (by_reaction K before message.server rest (at_server K before message)) in
      let full = ltb (room_without net) (length o.sent) in
      let reply_is : handed K before rest message kind ≡ cond full (refused before NetworkFull) (by_outcome K before message.client rest o) =
      cond-true (from_server kind) (mine (at_client K before kind message)) other comes
      ∙ ap mine (sym (takes_same K kind (before.clients message.client) message))
      ∙ ap (λ t. cond t (refused before NetworkFull) (by_outcome K before message.client rest o)) (room_is (length o.sent)) in
      elim (cases_Bool full) [
        | inl t ↦
            let none = to.full t in
            no_room (handed K before rest message kind) r ss cs' ls memory' ps' net'
            (reply_is ∙ cond-true full (refused before NetworkFull) (by_outcome K before message.client rest o) t) none.0 refl none.1 refl none.2
        | inr f ↦
            let done = to.fitting f in
            client_took (handed K before rest message kind) r cs' ps' net' memory' within named
            (reply_is ∙ cond-false full (refused before NetworkFull) (by_outcome K before message.client rest o) f) f done.0 done.1
      ]

  -- a message that a client sends goes to its server
  pub server_handed : (r : Answer S V) (ss' : List (Server S V)) (ls' : List (Listener S)) (net' : Network) (memory' : List (Message S V))
      → from_server kind ≡ false
      → ToServer K.rules.above K.lowest K.initial K.rules.n K.client_count (members faulty message.server) ss ls net memory message place r ss' ls' net' memory'
      → Handed K net.len faulty (lent ss cs ls memory ps) message (handed K before rest message kind) r net'.len (lent ss' cs ls' memory' ps)
  server_handed r ss' ls' net' memory' goes to =
      let o = at_server K before message in
      let other = cond (overfull K (length rest) (length (at_client K before kind message).sent)) (refused before NetworkFull) (by_outcome K before message.client rest (at_client K before kind message)) in
      let mine = cond (overfull K (length rest) (length o.sent)) (refused before NetworkFull) (by_reaction K before message.server rest o) in
      let full = ltb (room_without net) (length o.sent) in
      let reply_is : handed K before rest message kind ≡ cond full (refused before NetworkFull) (by_reaction K before message.server rest o) =
      cond-false (from_server kind) other mine goes
      ∙ ap (λ t. cond t (refused before NetworkFull) (by_reaction K before message.server rest o)) (room_is (length o.sent)) in
      elim (cases_Bool full) [
        | inl t ↦
            let none = to.full t in
            no_room (handed K before rest message kind) r ss' cs ls' memory' ps net'
            (reply_is ∙ cond-true full (refused before NetworkFull) (by_reaction K before message.server rest o) t) none.0 none.1 refl none.2 refl
        | inr f ↦
            let done = to.fitting f in
            server_took (handed K before rest message kind) r ss' ls' net' memory'
            (reply_is ∙ cond-false full (refused before NetworkFull) (by_reaction K before message.server rest o) f) f done.0 done.1 done.2
      ]
