-- The protocol: a register's state, and what each call answers and makes of it.
use Rattle.std.specs.Prelude.{ℕ, zero, suc, ◌-◌, Bool, true, false, cond, not, ◌&&◌, List, [], ◌∷◌, ◌++◌, length, Some, None, Option, nat_le, nat_lt}
use Rattle.calls.specs.Refusals.{Check, first_failed}
use Rattle.calls.specs.declared.Refusal.{Refusal}
use Rattle.calls.specs.declared.Refusal.TheVariants.{Memory, NoClient, NoServer, OperationOpen, NumbersUsedUp, NetworkFull, NoMessage, NotFailProne, ServerCorrect, NotServerKind}
use Rattle.calls.specs.declared.Call.{Call}
use Rattle.calls.specs.declared.Call.TheVariants.{Write, Deliver, Turn, Forge}
use Rattle.calls.specs.declared.Answer.{Answer}
use Rattle.calls.specs.declared.Answer.TheVariants.{Taken, Turned, Forged, Refused}
use Rattle.network.specs.Kinds.{kind_of}
use Rattle.network.specs.declared.message.Kind.{Kind}
use Rattle.network.specs.declared.message.Kind.TheVariants.{Query, Ts, Store, Ack, Value, Stop}
use Rattle.network.specs.declared.message.Message.{Message}
use Rattle.server.specs.Serving.{ServerState, Reaction, silent, reaction}
use Rattle.reading.specs.Readings.{updated}
use Rattle.protocol.specs.Settings.{Setting}
use Rattle.protocol.specs.Clients.{Client, Outcome, idle, is_idle, begins_write, begins_read, takes}

-- the whole register: the faulty servers, what each server holds and how it listens, each client, and the messages under way, oldest first
pub record State (S V : Type 0) : Type 0 where
  pub faulty : ℕ → Bool
  pub servers : ℕ → ServerState S V
  pub clients : ℕ → Client S V
  pub queue : List (Message S V)

-- what a call answers, and the state that it leaves
pub record Reply (S V : Type 0) : Type 0 where
  pub answer : Answer S V
  pub state : State S V

-- a message at a place, and the queue without it
abbrev pub lifted : {A : Type 0} → A → Option (A × List A) → Option (A × List A)
lifted x None = None
lifted x (Some p) = Some (p.0, x ∷ p.1)

-- the message at a place, from 0, and the queue closed up without it
abbrev pub lift : {A : Type 0} → ℕ → List A → Option (A × List A)
lift place [] = None
lift zero (x ∷ xs) = Some (x, xs)
lift (suc place) (x ∷ xs) = lifted x (lift place xs)

-- TS, ACK and VALUE are what servers send
abbrev pub from_server : Kind → Bool
from_server Ts = true
from_server Ack = true
from_server Value = true
from_server Query = false
from_server Store = false
from_server Kind.Read = false
from_server Stop = false

-- a byte that stands for a kind that servers send
abbrev pub may_be_sent : Option Kind → Bool
may_be_sent None = false
may_be_sent (Some kind) = from_server kind

module _ {S V : Type 0} where
  -- a message with all fields as given
  abbrev pub message_of : (b c kind k : ℕ) → S → V → Message S V
  message_of b c kind k t v = record { client = c; server = b; kind = kind; number = k; timestamp = t; value = v }

  -- a call that is refused changes nothing
  abbrev pub refused : State S V → Refusal → Reply S V
  refused σ e = record { answer = Refused e; state = σ }

  -- the reply where no check fails, else the refusal of the first that does
  abbrev pub unless : Option Refusal → State S V → Reply S V → Reply S V
  unless None σ reply = reply
  unless (Some e) σ reply = refused σ e

  -- server b becomes x, and the queue is another
  abbrev pub with_server : State S V → ℕ → ServerState S V → List (Message S V) → State S V
  with_server σ b x queue = record { faulty = σ.faulty; servers = updated σ.servers b x; clients = σ.clients; queue = queue }

  -- client c becomes x, and the queue is another
  abbrev pub with_client : State S V → ℕ → Client S V → List (Message S V) → State S V
  with_client σ c x queue = record { faulty = σ.faulty; servers = σ.servers; clients = updated σ.clients c x; queue = queue }

module _ {S V : Type 0} (K : Setting S V) where
  -- more messages than there is room behind so many
  abbrev pub overfull : ℕ → ℕ → Bool
  overfull standing sending = nat_lt (K.capacity - standing) sending

  -- the checks of an operation's beginning, in order
  abbrev pub begin_checks : State S V → ℕ → List Check
  begin_checks σ c =
      (not (nat_lt c K.client_count), NoClient)
      ∷ ((not (is_idle (σ.clients c).phase), OperationOpen)
      ∷ ((nat_le K.most (σ.clients c).number, NumbersUsedUp)
      ∷ ((overfull (length σ.queue) K.rules.n, NetworkFull) ∷ [])))

  -- client c becomes what an outcome says, and what it sends stands behind the other messages
  abbrev pub by_outcome : State S V → ℕ → List (Message S V) → Outcome S V → Reply S V
  by_outcome σ c queue o = record { answer = o.answer; state = with_client σ c o.after (queue ++ o.sent) }

  -- a client begins an operation
  abbrev pub begin : State S V → ℕ → Outcome S V → Reply S V
  begin σ c o = unless (first_failed (begin_checks σ c)) σ (by_outcome σ c σ.queue o)

  -- a message reaches a server: it reacts, and what it sends stands behind the other messages
  abbrev pub by_reaction : State S V → ℕ → List (Message S V) → Reaction S V → Reply S V
  by_reaction σ b queue r = record { answer = Taken; state = with_server σ b r.after (queue ++ r.sent) }

  -- how the server of a message reacts to it
  abbrev pub at_server : State S V → Message S V → Reaction S V
  at_server σ m =
      reaction K.rules.above K.lowest K.initial (σ.faulty m.server) K.client_count (σ.servers m.server) m

  -- what the client of a message makes of it
  abbrev pub at_client : State S V → Kind → Message S V → Outcome S V
  at_client σ kind m = takes K kind (σ.clients m.client) m

  -- a message that is taken from the queue, by its kind: it goes to its server or to its client, unless it brings more messages than there is room
  abbrev pub handed : State S V → List (Message S V) → Message S V → Kind → Reply S V
  handed σ rest m kind =
      cond (from_server kind)
      (cond (overfull (length rest) (length (at_client σ kind m).sent)) (refused σ NetworkFull) (by_outcome σ m.client rest (at_client σ kind m)))
      (cond (overfull (length rest) (length (at_server σ m).sent)) (refused σ NetworkFull) (by_reaction σ m.server rest (at_server σ m)))

  -- the client and the server of a message are there
  abbrev pub named : Message S V → Bool
  named m = nat_lt m.client K.client_count && nat_lt m.server K.rules.n

  -- a message that is taken from the queue: it names a client, a server and a kind that are there
  abbrev pub taken : State S V → List (Message S V) → Message S V → Option Kind → Reply S V
  taken σ rest m None = refused σ Memory
  taken σ rest m (Some kind) = cond (named m) (handed σ rest m kind) (refused σ Memory)

  -- the message at a place is delivered
  abbrev pub delivered : State S V → Option (Message S V × List (Message S V)) → Reply S V
  delivered σ None = refused σ NoMessage
  delivered σ (Some p) = taken σ p.1 p.0 (kind_of p.0.kind)

  -- the checks of turning a server, in order
  abbrev pub turn_checks : State S V → ℕ → List Check
  turn_checks σ b = (not (nat_lt b K.rules.n), NoServer) ∷ ((not (K.rules.fail_prone (updated σ.faulty b true)), NotFailProne) ∷ [])

  -- a server that is faulty from now on
  abbrev pub turned : State S V → ℕ → Reply S V
  turned σ b = record { answer = Turned; state = record { faulty = updated σ.faulty b true; servers = σ.servers; clients = σ.clients; queue = σ.queue } }

  -- the checks of a forged message, in order
  abbrev pub forge_checks : State S V → Message S V → List Check
  forge_checks σ m =
      (not (nat_lt m.server K.rules.n), NoServer)
      ∷ ((not (nat_lt m.client K.client_count), NoClient)
      ∷ ((not (σ.faulty m.server), ServerCorrect)
      ∷ ((not (may_be_sent (kind_of m.kind)), NotServerKind)
      ∷ ((overfull (length σ.queue) 1, NetworkFull) ∷ []))))

  -- a forged message stands behind the other messages
  abbrev pub forged : State S V → Message S V → Reply S V
  forged σ m = record { answer = Forged; state = record { faulty = σ.faulty; servers = σ.servers; clients = σ.clients; queue = σ.queue ++ (m ∷ []) } }

  -- what a call answers, and the state that it leaves
  abbrev pub step : State S V → Call S V → Reply S V
  step σ (Write c v) = begin σ c (begins_write K c (σ.clients c) v)
  step σ (Call.Read c) = begin σ c (begins_read K c (σ.clients c))
  step σ (Deliver place) = delivered σ (lift place σ.queue)
  step σ (Turn b) = unless (first_failed (turn_checks σ b)) σ (turned σ b)
  step σ (Forge b c kind k t v) =
      unless (first_failed (forge_checks σ (message_of b c kind k t v))) σ (forged σ (message_of b c kind k t v))

  -- at first no server is faulty, each holds the initial pair and listens to no client, and nothing is open or under way
  abbrev pub opened : State S V
  opened = record {
    faulty = λ b. false;
    servers = λ b. record { timestamp = K.lowest; value = K.initial; listener = λ c. silent K.lowest };
    clients = λ c. record { number = 0; last = K.lowest; phase = idle };
    queue = [];
  }
