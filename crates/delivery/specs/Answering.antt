-- What a call on a register's lent memory promises.
use Rattle.std.specs.Prelude.{◌≡◌, ℕ, ◌+◌, ◌*◌, Bool, true, false, ◌&&◌, List, take, drop, Some, None, Option, ◌==◌}
use Rattle.calls.specs.declared.Answer.{Answer}
use Rattle.calls.specs.declared.Answer.TheVariants.{Refused}
use Rattle.calls.specs.declared.Refusal.{Refusal}
use Rattle.calls.specs.declared.Refusal.TheVariants.{Memory}
use Rattle.network.specs.Kinds.{byte_of}
use Rattle.network.specs.declared.message.Kind.TheVariants.{Value}
use Rattle.network.specs.declared.message.Message.{Message}
use Rattle.quorums.specs.declared.sets.ServerSet.{ServerSet}
use Rattle.reading.specs.Reports.{Report}
use Rattle.protocol.specs.Settings.{Setting}
use Rattle.protocol.specs.Clients as protocol
use Rattle.protocol.specs.Protocol.{State, Reply, lift, delivered}
use Rattle.delivery.specs.Memory.{Lent, report_count, state_in, enough}

-- a client that reads
abbrev pub is_reading : {S V : Type 0} → protocol.Phase S V → Bool
is_reading protocol.idle = false
is_reading (protocol.asking v told t) = false
is_reading (protocol.storing t v acks) = false
is_reading (protocol.reading r) = true

-- the client of a message hears it as a VALUE of its read
abbrev pub hears : {S V : Type 0} → protocol.Client S V → Message S V → Bool
hears x m = is_reading x.phase && (m.number == x.number && m.kind == byte_of Value)

module _ {S V : Type 0} (K : Setting S V) where
  -- what lies past the register's own part of each slice is as it was; so many messages stand in the queue
  pub record Rest (len : ℕ) (x x' : Lent S V) : Type 0 where
    pub servers_rest : drop K.rules.n x'.servers ≡ drop K.rules.n x.servers
    pub clients_rest : drop K.client_count x'.clients ≡ drop K.client_count x.clients
    pub listeners_rest : drop (K.rules.n * K.client_count) x'.listeners ≡ drop (K.rules.n * K.client_count) x.listeners
    pub messages_rest : drop len x'.messages ≡ drop len x.messages
    pub reports_rest : drop (K.client_count * report_count K) x'.reports ≡ drop (K.client_count * report_count K) x.reports

  -- answered as the protocol replies: the answer, the state afterwards and the rest of the memory; a refusal changes nothing at all
  pub record Answered (len : ℕ) (faulty : ServerSet) (x : Lent S V) (reply : Reply S V) (r : Answer S V) (len' : ℕ) (faulty' : ServerSet) (x' : Lent S V) : Type 0 where
    pub answer_is : r ≡ reply.answer
    pub state_after : state_in K len' faulty' x' ≡ reply.state
    pub enough_after : enough K len' x' ≡ true
    pub rest_after : Rest len' x x'
    pub refused_kept : (e : Refusal) → r ≡ Refused e → (len' ≡ len) × (faulty' ≡ faulty) × (x' ≡ x)

  -- of the reports, only those of one client change
  pub record OnlyOf (c : ℕ) (p p' : List (Report S V)) : Type 0 where
    pub before : take (c * report_count K) p' ≡ take (c * report_count K) p
    pub behind : drop (c * report_count K + report_count K) p' ≡ drop (c * report_count K + report_count K) p

  -- the reports after a delivery: only the client that hears a VALUE has others
  pub record ReportsHeard (σ : State S V) (m : Message S V) (p p' : List (Report S V)) : Type 0 where
    pub only : OnlyOf m.client p p'
    pub unheard : hears (σ.clients m.client) m ≡ false → p' ≡ p

  -- the reports after the delivery of what stands at a place
  abbrev pub ReportsAfter : State S V → Option (Message S V × List (Message S V)) → List (Report S V) → List (Report S V) → Type 0
  ReportsAfter σ None p p' = p' ≡ p
  ReportsAfter σ (Some taken) p p' = ReportsHeard σ taken.0 p p'

  -- refused for want of memory, with nothing changed
  pub record Short (len : ℕ) (faulty : ServerSet) (x : Lent S V) (r : Answer S V) (len' : ℕ) (faulty' : ServerSet) (x' : Lent S V) : Type 0 where
    pub answer_is : r ≡ Refused Memory
    pub length_kept : len' ≡ len
    pub faulty_kept : faulty' ≡ faulty
    pub memory_kept : x' ≡ x

  -- a call: refused with 4 where the memory is not enough, and else answered as the protocol replies
  pub record Called (len : ℕ) (faulty : ServerSet) (x : Lent S V) (reply : Reply S V) (r : Answer S V) (len' : ℕ) (faulty' : ServerSet) (x' : Lent S V) : Type 0 where
    pub short : enough K len x ≡ false → Short len faulty x r len' faulty' x'
    pub answered : enough K len x ≡ true → Answered len faulty x reply r len' faulty' x'

  -- what the protocol replies to the delivery of what stands at a place
  abbrev pub reply_to_delivery : ℕ → ServerSet → Lent S V → ℕ → Reply S V
  reply_to_delivery len faulty x place = delivered K (state_in K len faulty x) (lift place (take len x.messages))

  -- the message at a place is delivered
  pub record Delivery (len : ℕ) (faulty : ServerSet) (x : Lent S V) (place : ℕ) (r : Answer S V) (len' : ℕ) (x' : Lent S V) : Type 0 where
    pub called : Called len faulty x (reply_to_delivery len faulty x place) r len' faulty x'
    pub reports_after : enough K len x ≡ true → ReportsAfter (state_in K len faulty x) (lift place (take len x.messages)) x.reports x'.reports
