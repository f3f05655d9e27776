-- A register's lent memory as the protocol sees it.
use Rattle.std.specs.Prelude.{◌≡◌, ℕ, ◌+◌, ◌*◌, Bool, cond, List, [], length, take, drop, nat_lt, slice_index_or}
use Rattle.network.specs.declared.message.Message.{Message}
use Rattle.quorums.specs.Sets.{members}
use Rattle.quorums.specs.declared.sets.ServerSet.{ServerSet}
use Rattle.reading.specs.Reports.{Report}
use Rattle.reading.specs.Readings.{unread}
use Rattle.reading.specs.Reports.{view}
use Rattle.server.specs.Serving.{ServerState}
use Rattle.server.specs.Receiving.{state_of}
use Rattle.server.specs.declared.state.Listener.{Listener}
use Rattle.server.specs.declared.state.Server.{Server}
use Rattle.protocol.specs.Settings.{Setting}
use Rattle.protocol.specs.Clients as protocol
use Rattle.protocol.specs.Protocol.{State}
use Rattle.client.specs.Showing.{client_of}
use Rattle.client.specs.declared.state.Client.{Client}
use Rattle.client.specs.declared.state.Phase.TheVariants.{Idle}
use Rattle.delivery.specs.Sizes.{enough_for}
use Rattle.delivery.specs.declared.memory.Memory.{Memory}
use Rattle.delivery.specs.declared.sizes.Sizes.{Sizes}

-- the i-th of the parts of so many entries
abbrev pub part : {A : Type 0} → ℕ → List A → ℕ → List A
part size xs i = take size (drop (i * size) xs)

-- a server at first
abbrev pub new_server : {S V : Type 0} → S → V → Server S V
new_server lowest initial = record { timestamp = lowest; value = initial }

-- a client at first
abbrev pub new_client : {S V : Type 0} → S → Client S V
new_client lowest = record { number = 0; last = lowest; phase = Idle }

module _ {S V : Type 0} (above : S → S → Bool) (lowest : S) (initial : V) (n m : ℕ) where
  -- what each of n servers holds, and how it listens to m clients; servers from n on are as at first
  abbrev pub servers_of : List (Server S V) → List (Listener S) → ℕ → ServerState S V
  servers_of servers listeners b =
      cond (nat_lt b n) (state_of lowest (slice_index_or servers b (new_server lowest initial)) (part m listeners b)) (state_of lowest (new_server lowest initial) [])

  -- each of m clients, with what it knows of n servers; clients from m on are as at first
  abbrev pub clients_of : List (Client S V) → List (Report S V) → ℕ → protocol.Client S V
  clients_of clients reports c =
      cond (nat_lt c m) (client_of (slice_index_or clients c (new_client lowest)) (view above (lowest, initial) n (part (n * (n + 1)) reports c)))
      (client_of (new_client lowest) (unread lowest initial))

-- the memory that is lent to a register, whole
pub record Lent (S V : Type 0) : Type 0 where
  pub servers : List (Server S V)
  pub clients : List (Client S V)
  pub listeners : List (Listener S)
  pub messages : List (Message S V)
  pub reports : List (Report S V)

-- five slices as one memory
abbrev pub lent : {S V : Type 0} → List (Server S V) → List (Client S V) → List (Listener S) → List (Message S V) → List (Report S V) → Lent S V
lent servers clients listeners messages reports =
    record { servers = servers; clients = clients; listeners = listeners; messages = messages; reports = reports }

-- what the lent memory holds
abbrev pub contents : {S V : Type 0} → Memory S V → Lent S V
contents x = lent x.servers.now x.clients.now x.listeners.now x.messages.now x.reports.now

-- the same memory is lent still, whatever it holds
pub record SameLoans {S V : Type 0} (x x' : Memory S V) : Type 0 where
  pub servers : x'.servers.ghost_name ≡ x.servers.ghost_name
  pub clients : x'.clients.ghost_name ≡ x.clients.ghost_name
  pub listeners : x'.listeners.ghost_name ≡ x.listeners.ghost_name
  pub messages : x'.messages.ghost_name ≡ x.messages.ghost_name
  pub reports : x'.reports.ghost_name ≡ x.reports.ghost_name

-- how much of each memory there is
abbrev pub sizes_of : {S V : Type 0} → Lent S V → Sizes
sizes_of x = record {
  servers = length x.servers;
  clients = length x.clients;
  listeners = length x.listeners;
  messages = length x.messages;
  reports = length x.reports;
}

module _ {S V : Type 0} (K : Setting S V) where
  -- how many reports one client has
  abbrev pub report_count : ℕ
  report_count = K.rules.n * (K.rules.n + 1)

  -- the register as the protocol sees it: so many messages stand in the queue, and these servers are faulty
  abbrev pub state_in : ℕ → ServerSet → Lent S V → State S V
  state_in len faulty x = record {
    faulty = members faulty;
    servers = servers_of K.rules.above K.lowest K.initial K.rules.n K.client_count x.servers x.listeners;
    clients = clients_of K.rules.above K.lowest K.initial K.rules.n K.client_count x.clients x.reports;
    queue = take len x.messages;
  }

  -- all is within its limits, and there is memory for all; so many messages stand in the queue
  abbrev pub enough : ℕ → Lent S V → Bool
  enough len x = enough_for K.rules.n K.client_count K.capacity len (sizes_of x)
