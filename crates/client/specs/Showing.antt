-- A client's record as the protocol sees it, and what it sends.
use Rattle.std.specs.Prelude.{ℕ, List, [], Some, None, Option}
use Rattle.network.specs.declared.message.Message.{Message}
use Rattle.quorums.specs.Sets.{members}
use Rattle.quorums.specs.declared.QuorumSystem.{Ghosts as QuorumGhosts}
use Rattle.timestamps.specs.declared.Timestamp.{Ghosts as TimestampGhosts}
use Rattle.values.specs.declared.Value.{Ghosts as ValueGhosts}
use Rattle.reading.specs.Readings.{Reading}
use Rattle.protocol.specs.Settings.{Setting, setting_of}
use Rattle.protocol.specs.Clients as protocol
use Rattle.protocol.specs.Clients.{to_all, from_client}
use Rattle.client.specs.declared.state.Client.{Client}
use Rattle.client.specs.declared.state.Phase.{Phase}
use Rattle.client.specs.declared.state.Phase.TheVariants as phase
use Rattle.client.specs.declared.state.Broadcast.{Broadcast}
use Rattle.client.specs.declared.state.Outcome.{Outcome}

-- the setting of three kinds; a client asks neither for the clients there are, nor for the capacity, nor for the highest number
abbrev pub kinds_of : {Q S V : Type 0} → QuorumGhosts Q → TimestampGhosts S → ValueGhosts V → Q → Setting S V
kinds_of quorums timestamps values system = setting_of quorums timestamps values system 0 0 0

-- a phase; what a reading client knows is given
abbrev pub phase_of : {S V : Type 0} → Phase S V → Reading S V → protocol.Phase S V
phase_of phase.Idle known = protocol.idle
phase_of (phase.Asking value told highest) known = protocol.asking value (members told) highest
phase_of (phase.Storing timestamp value acknowledged) known = protocol.storing timestamp value (members acknowledged)
phase_of phase.Reading known = protocol.reading known

-- a client
abbrev pub client_of : {S V : Type 0} → Client S V → Reading S V → protocol.Client S V
client_of x known = record { number = x.number; last = x.last; phase = phase_of x.phase known }

-- what goes to the n servers
abbrev pub messages_of : {S V : Type 0} → (n client : ℕ) → Option (Broadcast S V) → List (Message S V)
messages_of n client None = []
messages_of n client (Some x) = to_all n (λ server. from_client client server x.kind x.number x.timestamp x.value)

-- an outcome
abbrev pub outcome_of : {S V : Type 0} → (n client : ℕ) → Outcome S V → Reading S V → protocol.Outcome S V
outcome_of n client o known =
    record { after = client_of o.client known; answer = o.answer; sent = messages_of n client o.broadcast }
