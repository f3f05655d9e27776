-- A lifted message that is settled and followed by what it brings, or put back. Assumes nothing.
use Rattle.std.proofs.Common.{◌≡◌, ℕ, ◌<◌, ◌≤◌, Bool, true, List, length, Some, None, Ok, Err, Option, Result, sym, refl, ap, ◌∙◌, subst, arith}
use Rattle.std.proofs.lemmas.Bool.{ltb-true, ltb-false}
use Rattle.calls.specs.declared.Answer.{Answer}
use Rattle.calls.specs.declared.Answer.TheVariants.{Taken, Refused}
use Rattle.calls.specs.declared.Refusal.{Refusal}
use Rattle.calls.specs.declared.Refusal.TheVariants.{NetworkFull}
use Rattle.network.specs.Queues.{fits, settled, closed_up, restored, Room, Sent}
use Rattle.network.specs.declared.message.Kind.{Kind}
use Rattle.network.specs.declared.message.Message.{Message}
use Rattle.network.specs.declared.queue.Network.{Network}
use Rattle.reading.specs.Reports.{Report}
use Rattle.server.specs.declared.state.Listener.{Listener}
use Rattle.server.specs.declared.state.Server.{Server}
use Rattle.protocol.specs.Settings.{Setting}
use Rattle.client.specs.Showing.{messages_of}
use Rattle.client.specs.Taking.{sending}
use Rattle.client.specs.declared.state.Client.{Client}
use Rattle.client.specs.declared.state.Broadcast.{Broadcast}
use Rattle.client.proofs.Weighing.{length-messages}
use Rattle.delivery.specs.Parts.{server_reacts, ServersKept, Served, client_takes, ClientsKept, AttendedBy}
use Rattle.delivery.specs.Handing.{room_without, Replaced, ServedOn, ToServer, ToClient}
use Rattle.delivery.proofs.Queues.{room_settled, replaced, restored_as, receive_passes}

-- settled, and followed by what goes to the servers
pub sent_on : {S V : Type 0} (n client : ℕ) (x : Option (Broadcast S V)) (net net' net'' : Network) (memory memory' memory'' : List (Message S V)) (place : ℕ)
    → fits net (length memory) ≡ true → net' ≡ settled net (length memory) → memory' ≡ closed_up net memory
    → (Room net' (length memory') (sending n x) → Sent net' memory' (messages_of n client x) net'' memory'')
    → net.lifted ≡ Some place → length (messages_of n client x) ≤ room_without net → Replaced net memory place (messages_of n client x) net'' memory''
sent_on n client x net net' net'' memory memory' memory'' place fit net_is memory_is sent is small =
    let counted = length-messages n client x in
    let room = room_settled net memory place fit is net' memory' (sending n x) net_is memory_is (omega (arith, counted, small)) in
    replaced net memory place fit is net' net'' memory' memory'' (messages_of n client x) net_is memory_is (sent room)

module _ {S V : Type 0} (above : S → S → Bool) (lowest : S) (initial : V) (n m : ℕ) (faulty : Bool) (ss : List (Server S V)) (ls : List (Listener S)) (net : Network) (memory : List (Message S V)) (message : Message S V)
    (fit : fits net (length memory) ≡ true) where
  -- settled, and taken by the server
  pub served_on : (net' net'' : Network) (memory' memory'' : List (Message S V)) (r : Result Unit Refusal) (ss' : List (Server S V)) (ls' : List (Listener S))
      → m ≤ 64 → message.client < m → net' ≡ settled net (length memory) → memory' ≡ closed_up net memory
      → Served above lowest initial n m faulty ss ls net' memory' message r ss' ls' net'' memory''
      → ServersKept above lowest initial n m ss ls ss' ls'
      → ServedOn above lowest initial n m faulty ss ls net memory message ss' ls' net'' memory''
  served_on net' net'' memory' memory'' (Ok u) ss' ls' few there net_is memory_is served kept place is small = (
    record { servers_after = served.1.servers_after; servers_kept = kept },
    replaced net memory place fit is net' net'' memory' memory'' (server_reacts above lowest initial n m faulty ss ls message).sent net_is memory_is served.1.sent_after,
  )
  served_on net' net'' memory' memory'' (Err e) ss' ls' few there net_is memory_is served kept place is small =
      let more = length (server_reacts above lowest initial n m faulty ss ls message).sent in
      let room = room_settled net memory place fit is net' memory' more net_is memory_is small in
      let clash : ◌≡◌ {A = Option Refusal} None (Some e) = sym (receive_passes net' (length memory') m message.client more room few there) ∙ served.0 in
      let z : ◌≡◌ {A = ℕ} 0 1 = cc in
      absurd (omega arith)

  -- too much for the room: put back
  pub server_full : (place sending : ℕ) (r : Answer S V) (net' : Network) → net.lifted ≡ Some place → sending ≡ length (server_reacts above lowest initial n m faulty ss ls message).sent
      → room_without net < sending → r ≡ Refused NetworkFull → net' ≡ restored net (length memory)
      → ToServer above lowest initial n m faulty ss ls net memory message place r ss ls net' memory
  server_full place sending r net' is counted many r_is back = record {
    full = λ _. (record { answer_is = r_is; record_kept = back ∙ restored_as net memory place fit is; memory_kept = refl }, refl, refl);
    fitting = λ f. let few = ltb-false (room_without net) (length (server_reacts above lowest initial n m faulty ss ls message).sent) f in absurd (omega (arith, few, many, counted));
  }

  -- within the room: taken
  pub server_fits : (place sending : ℕ) (ss' : List (Server S V)) (ls' : List (Listener S)) (net' : Network) (memory' : List (Message S V)) → net.lifted ≡ Some place
      → sending ≡ length (server_reacts above lowest initial n m faulty ss ls message).sent → sending ≤ room_without net
      → ServedOn above lowest initial n m faulty ss ls net memory message ss' ls' net' memory'
      → ToServer above lowest initial n m faulty ss ls net memory message place Taken ss' ls' net' memory'
  server_fits place sending ss' ls' net' memory' is counted few served = record {
    full = λ t. let many = ltb-true (room_without net) (length (server_reacts above lowest initial n m faulty ss ls message).sent) t in absurd (omega (arith, few, many, counted));
    fitting = λ _. let done = served place is (omega (arith, few, counted)) in (refl, done.0, done.1);
  }

module _ {S V : Type 0} (K : Setting S V) (m : ℕ) (cs : List (Client S V)) (ps : List (Report S V)) (net : Network) (memory : List (Message S V)) (message : Message S V) (kind : Kind) (place : ℕ)
    (fit : fits net (length memory) ≡ true) (is : net.lifted ≡ Some place) where
  -- too much for the room: put back
  pub client_full : (room : ℕ) (e : Refusal) (r : Answer S V) (cs' : List (Client S V)) (ps' : List (Report S V)) (net' : Network) → room ≡ room_without net
      → (e ≡ NetworkFull) × (room < length (client_takes K m cs ps message kind).sent) × (cs' ≡ cs) × (ps' ≡ ps) → r ≡ Refused e → net' ≡ restored net (length memory)
      → ToClient K m cs ps net memory message kind place r cs' ps' net' memory
  client_full room e r cs' ps' net' room_is left r_is back = record {
    full = λ _. (record { answer_is = r_is ∙ ap Refused left.0; record_kept = back ∙ restored_as net memory place fit is; memory_kept = refl }, left.2, left.3);
    fitting = λ f. let few = ltb-false (room_without net) (length (client_takes K m cs ps message kind).sent) f in absurd (omega (arith, few, left.1, room_is));
  }

  -- within the room: taken
  pub client_fits : (room : ℕ) (given : Answer S V × Option (Broadcast S V)) (cs' : List (Client S V)) (ps' : List (Report S V)) (net' : Network) (memory' : List (Message S V)) → room ≡ room_without net
      → AttendedBy K m cs ps message kind room given cs' ps'
      → ClientsKept K m cs ps message kind cs' ps'
      → (length (messages_of K.rules.n message.client given.1) ≤ room_without net → Replaced net memory place (messages_of K.rules.n message.client given.1) net' memory')
      → ToClient K m cs ps net memory message kind place given.0 cs' ps' net' memory'
  client_fits room given cs' ps' net' memory' room_is attended kept sent = record {
    full = λ t. let many = ltb-true (room_without net) (length (client_takes K m cs ps message kind).sent) t in absurd (omega (arith, many, attended.fits, room_is));
    fitting = λ _.
        let counted = ap length attended.sent_is in
        let P : List (Message S V) → Type 0 = λ l. Replaced net memory place l net' memory' in
        (record { clients_after = attended.clients_after; clients_kept = kept; answer_is = attended.answer_is }, subst P attended.sent_is (sent (omega (arith, counted, attended.fits, room_is))));
  }
