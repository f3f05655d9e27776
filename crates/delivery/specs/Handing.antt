-- What handing over a lifted message promises.
use Rattle.std.specs.Prelude.{◌≡◌, ℕ, ◌+◌, ◌-◌, ◌≤◌, Bool, true, false, cond, ◌&&◌, ltb, List, ◌++◌, length, take, drop, Some, None, Option, nat_lt}
use Rattle.std.specs.List.{remove}
use Rattle.calls.specs.declared.Answer.{Answer}
use Rattle.calls.specs.declared.Answer.TheVariants.{Taken, Refused}
use Rattle.calls.specs.declared.Refusal.TheVariants.{NetworkFull}
use Rattle.network.specs.Kinds.{kind_of}
use Rattle.network.specs.Queues.{queue}
use Rattle.network.specs.declared.message.Kind.{Kind}
use Rattle.network.specs.declared.message.Message.{Message}
use Rattle.network.specs.declared.queue.Network.{Network}
use Rattle.quorums.specs.declared.sets.ServerSet.{ServerSet}
use Rattle.reading.specs.Reports.{Report}
use Rattle.server.specs.declared.state.Listener.{Listener}
use Rattle.server.specs.declared.state.Server.{Server}
use Rattle.protocol.specs.Settings.{Setting}
use Rattle.protocol.specs.Protocol.{Reply, handed, taken}
use Rattle.client.specs.declared.state.Client.{Client}
use Rattle.delivery.specs.Memory.{Lent, state_in}
use Rattle.delivery.specs.Parts.{server_reacts, ServersAfter, client_takes, ClientsAfter}
use Rattle.delivery.specs.Answering.{Answered, ReportsHeard}

-- how many messages may be sent once the lifted one is gone
abbrev pub room_without : Network → ℕ
room_without net = net.capacity - (net.len - 1)

-- the record with the lifted message back in its place
abbrev pub put_down : Network → Network
put_down net = record { capacity = net.capacity; len = net.len; lifted = None }

-- the message at a place is gone from the queue, and others stand behind; the rest of the memory is as it was
pub record Replaced {M : Type 0} (net : Network) (memory : List M) (place : ℕ) (sent : List M) (net' : Network) (memory' : List M) : Type 0 where
  pub record_after : net' ≡ record { capacity = net.capacity; len = net.len - 1 + length sent; lifted = None }
  pub queue_after : queue net' memory' ≡ remove (queue net memory) place ++ sent
  pub rest_after : drop net'.len memory' ≡ drop net'.len memory
  pub length_after : length memory' ≡ length memory

-- refused for want of room, and the message is back in its place
pub record NoRoom {S V M : Type 0} (net : Network) (memory : List M) (r : Answer S V) (net' : Network) (memory' : List M) : Type 0 where
  pub answer_is : r ≡ Refused NetworkFull
  pub record_kept : net' ≡ put_down net
  pub memory_kept : memory' ≡ memory

module _ {S V : Type 0} (above : S → S → Bool) (lowest : S) (initial : V) (n m : ℕ) where
  -- the lifted message is settled and its server takes it, where there is room for what the server sends
  abbrev pub ServedOn : Bool → List (Server S V) → List (Listener S) → Network → List (Message S V) → Message S V → List (Server S V) → List (Listener S) → Network → List (Message S V) → Type 0
  ServedOn faulty servers listeners net memory message servers' listeners' net' memory' = (place : ℕ) → net.lifted ≡ Some place
      → length (server_reacts above lowest initial n m faulty servers listeners message).sent ≤ room_without net
      → ServersAfter above lowest initial n m faulty servers listeners message servers' listeners'
      × Replaced net memory place (server_reacts above lowest initial n m faulty servers listeners message).sent net' memory'

  -- a lifted message goes to its server: it is taken, and what the server sends stands in the queue; or there is no room, and nothing changes
  pub record ToServer (faulty : Bool) (servers : List (Server S V)) (listeners : List (Listener S)) (net : Network) (memory : List (Message S V)) (message : Message S V) (place : ℕ)
      (r : Answer S V) (servers' : List (Server S V)) (listeners' : List (Listener S)) (net' : Network) (memory' : List (Message S V)) : Type 0 where
    pub full : ltb (room_without net) (length (server_reacts above lowest initial n m faulty servers listeners message).sent) ≡ true
        → NoRoom net memory r net' memory' × (servers' ≡ servers) × (listeners' ≡ listeners)
    pub fitting : ltb (room_without net) (length (server_reacts above lowest initial n m faulty servers listeners message).sent) ≡ false
        → (r ≡ Taken) × ServersAfter above lowest initial n m faulty servers listeners message servers' listeners'
        × Replaced net memory place (server_reacts above lowest initial n m faulty servers listeners message).sent net' memory'

module _ {S V : Type 0} (K : Setting S V) (m : ℕ) where
  -- a lifted message goes to its client: it is taken, and what the client sends stands in the queue; or there is no room, and nothing changes
  pub record ToClient (clients : List (Client S V)) (reports : List (Report S V)) (net : Network) (memory : List (Message S V)) (message : Message S V) (kind : Kind) (place : ℕ)
      (r : Answer S V) (clients' : List (Client S V)) (reports' : List (Report S V)) (net' : Network) (memory' : List (Message S V)) : Type 0 where
    pub full : ltb (room_without net) (length (client_takes K m clients reports message kind).sent) ≡ true
        → NoRoom net memory r net' memory' × (clients' ≡ clients) × (reports' ≡ reports)
    pub fitting : ltb (room_without net) (length (client_takes K m clients reports message kind).sent) ≡ false
        → ClientsAfter K m clients reports message kind r clients' reports'
        × Replaced net memory place (client_takes K m clients reports message kind).sent net' memory'

-- the kind of a message that names a client, a server and a kind that are there
abbrev pub kind_named : {S V : Type 0} → (n m : ℕ) → Message S V → Option Kind
kind_named n m message = cond (nat_lt message.client m && nat_lt message.server n) (kind_of message.kind) None

module _ {S V : Type 0} (K : Setting S V) where
  -- a message is handed over: answered as the protocol replies, and only the reports of a client that hears it change
  pub record Handed (len : ℕ) (faulty : ServerSet) (x : Lent S V) (message : Message S V) (reply : Reply S V) (r : Answer S V) (len' : ℕ) (x' : Lent S V) : Type 0 where
    pub answered : Answered K len faulty x reply r len' faulty x'
    pub reports_after : ReportsHeard K (state_in K len faulty x) message x.reports x'.reports

  -- the lifted message is handed to its server or to its client, by its kind
  abbrev pub HandedByKind : Network → ServerSet → Lent S V → Message S V → Kind → Answer S V → Network → Lent S V → Type 0
  HandedByKind net faulty x message kind r net' x' = (place : ℕ) → net.lifted ≡ Some place
      → Handed net.len faulty x message (handed K (state_in K net.len faulty x) (remove (take net.len x.messages) place) message kind) r net'.len x'

  -- the lifted message is handed over, if it names a client, a server and a kind that are there
  abbrev pub HandedOver : Network → ServerSet → Lent S V → Message S V → Answer S V → Network → Lent S V → Type 0
  HandedOver net faulty x message r net' x' = (place : ℕ) → net.lifted ≡ Some place
      → Handed net.len faulty x message (taken K (state_in K net.len faulty x) (remove (take net.len x.messages) place) message (kind_of message.kind)) r net'.len x'
