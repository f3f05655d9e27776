-- What a server's and a client's part of a delivery promise.
use Rattle.std.specs.Prelude.{◌≡◌, ℕ, ◌*◌, ◌<◌, ◌≤◌, Bool, false, List, length, drop, Some, None, Ok, Err, Option, Result, slice_index_or}
use Rattle.calls.specs.Refusals.{first_failed}
use Rattle.calls.specs.declared.Answer.{Answer}
use Rattle.calls.specs.declared.Refusal.{Refusal}
use Rattle.calls.specs.declared.Refusal.TheVariants.{NetworkFull}
use Rattle.network.specs.Queues.{Sent}
use Rattle.network.specs.declared.message.Kind.{Kind}
use Rattle.network.specs.declared.message.Message.{Message}
use Rattle.network.specs.declared.queue.Network.{Network}
use Rattle.reading.specs.Readings.{updated}
use Rattle.server.specs.Serving.{Reaction, reaction}
use Rattle.server.specs.Receiving.{receive_checks}
use Rattle.server.specs.declared.state.Listener.{Listener}
use Rattle.server.specs.declared.state.Server.{Server}
use Rattle.reading.specs.Reports.{Report}
use Rattle.protocol.specs.Settings.{Setting}
use Rattle.protocol.specs.Clients as protocol
use Rattle.client.specs.Showing.{messages_of}
use Rattle.client.specs.Taking.{hears_value}
use Rattle.client.specs.declared.state.Client.{Client}
use Rattle.client.specs.declared.state.Broadcast.{Broadcast}
use Rattle.delivery.specs.Memory.{new_client, servers_of, clients_of}
use Rattle.delivery.specs.Answering.{OnlyOf}

module _ {S V : Type 0} (above : S → S → Bool) (lowest : S) (initial : V) (n m : ℕ) where
  -- how the server of a message reacts to it
  abbrev pub server_reacts : Bool → List (Server S V) → List (Listener S) → Message S V → Reaction S V
  server_reacts faulty servers listeners message =
      reaction above lowest initial faulty m (servers_of above lowest initial n m servers listeners message.server) message

  -- why the message is refused, if it is
  abbrev pub server_refuses : Bool → List (Server S V) → List (Listener S) → Network → List (Message S V) → Message S V → Option Refusal
  server_refuses faulty servers listeners net memory message =
      first_failed (receive_checks net (length memory) m message.client (length (server_reacts faulty servers listeners message).sent))

  -- the rest of the servers' and listeners' memory is as it was
  pub record ServersKept (servers : List (Server S V)) (listeners : List (Listener S)) (servers' : List (Server S V)) (listeners' : List (Listener S)) : Type 0 where
    pub servers_rest : drop n servers' ≡ drop n servers
    pub listeners_rest : drop (n * m) listeners' ≡ drop (n * m) listeners
    pub servers_length : length servers' ≡ length servers
    pub listeners_length : length listeners' ≡ length listeners

  -- that server and its listeners are as the protocol says, the others and the rest of the memory as they were
  pub record ServersAfter (faulty : Bool) (servers : List (Server S V)) (listeners : List (Listener S)) (message : Message S V) (servers' : List (Server S V)) (listeners' : List (Listener S)) : Type 0 where
    pub servers_after : servers_of above lowest initial n m servers' listeners'
        ≡ updated (servers_of above lowest initial n m servers listeners) message.server (server_reacts faulty servers listeners message).after
    pub servers_kept : ServersKept servers listeners servers' listeners'

  -- served: that server and its listeners are as the protocol says, the others as they were, and what it sends is sent
  pub record ServedBy (faulty : Bool) (servers : List (Server S V)) (listeners : List (Listener S)) (net : Network) (memory : List (Message S V)) (message : Message S V)
      (servers' : List (Server S V)) (listeners' : List (Listener S)) (net' : Network) (memory' : List (Message S V)) : Type 0 where
    pub servers_after : servers_of above lowest initial n m servers' listeners'
        ≡ updated (servers_of above lowest initial n m servers listeners) message.server (server_reacts faulty servers listeners message).after
    pub sent_after : Sent net memory (server_reacts faulty servers listeners message).sent net' memory'

  -- a message at its server, over the memory of all servers
  abbrev pub Served : Bool → List (Server S V) → List (Listener S) → Network → List (Message S V) → Message S V → Result Unit Refusal
      → List (Server S V) → List (Listener S) → Network → List (Message S V) → Type 0
  Served faulty servers listeners net memory message (Ok _) servers' listeners' net' memory' =
      (server_refuses faulty servers listeners net memory message ≡ None) × ServedBy faulty servers listeners net memory message servers' listeners' net' memory'
  Served faulty servers listeners net memory message (Err e) servers' listeners' net' memory' =
      (server_refuses faulty servers listeners net memory message ≡ Some e) × (servers' ≡ servers) × (listeners' ≡ listeners) × (net' ≡ net) × (memory' ≡ memory)

module _ {S V : Type 0} (K : Setting S V) (m : ℕ) where
  -- the clients of a memory
  abbrev pub clients_in : List (Client S V) → List (Report S V) → ℕ → protocol.Client S V
  clients_in clients reports = clients_of K.rules.above K.lowest K.initial K.rules.n m clients reports

  -- what the client of a message makes of it
  abbrev pub client_takes : List (Client S V) → List (Report S V) → Message S V → Kind → protocol.Outcome S V
  client_takes clients reports message kind = protocol.takes K kind (clients_in clients reports message.client) message

  -- the rest of the clients' and reports' memory is as it was, and a client that hears no VALUE of its read keeps its reports
  pub record ClientsKept (clients : List (Client S V)) (reports : List (Report S V)) (message : Message S V) (kind : Kind)
      (clients' : List (Client S V)) (reports' : List (Report S V)) : Type 0 where
    pub clients_rest : drop m clients' ≡ drop m clients
    pub reports_only : OnlyOf K message.client reports reports'
    pub unheard : hears_value (slice_index_or clients message.client (new_client K.lowest)) message kind ≡ false → reports' ≡ reports
    pub clients_length : length clients' ≡ length clients
    pub reports_length : length reports' ≡ length reports

  -- that client and its reports are as the protocol says, the others and the rest of the memory as they were
  pub record ClientsAfter (clients : List (Client S V)) (reports : List (Report S V)) (message : Message S V) (kind : Kind) (answer : Answer S V)
      (clients' : List (Client S V)) (reports' : List (Report S V)) : Type 0 where
    pub clients_after : clients_in clients' reports' ≡ updated (clients_in clients reports) message.client (client_takes clients reports message kind).after
    pub clients_kept : ClientsKept clients reports message kind clients' reports'
    pub answer_is : answer ≡ (client_takes clients reports message kind).answer

  -- attended: that client and its reports are as the protocol says, the others as they were
  pub record AttendedBy (clients : List (Client S V)) (reports : List (Report S V)) (message : Message S V) (kind : Kind) (room : ℕ) (given : Answer S V × Option (Broadcast S V))
      (clients' : List (Client S V)) (reports' : List (Report S V)) : Type 0 where
    pub fits : length (client_takes clients reports message kind).sent ≤ room
    pub clients_after : clients_in clients' reports' ≡ updated (clients_in clients reports) message.client (client_takes clients reports message kind).after
    pub answer_is : given.0 ≡ (client_takes clients reports message kind).answer
    pub sent_is : messages_of K.rules.n message.client given.1 ≡ (client_takes clients reports message kind).sent

  -- a message at its client, over the memory of all clients
  abbrev pub Attended : List (Client S V) → List (Report S V) → Message S V → Kind → ℕ → Result (Answer S V × Option (Broadcast S V)) Refusal → List (Client S V) → List (Report S V) → Type 0
  Attended clients reports message kind room (Ok given) clients' reports' = AttendedBy clients reports message kind room given clients' reports'
  Attended clients reports message kind room (Err e) clients' reports' =
      (e ≡ NetworkFull) × (room < length (client_takes clients reports message kind).sent) × (clients' ≡ clients) × (reports' ≡ reports)
