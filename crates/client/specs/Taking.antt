-- What a client makes of a message, and of one for whose replies there is no room.
use Rattle.std.specs.Prelude.{◌≡◌, ℕ, ◌+◌, ◌*◌, ◌<◌, ◌≤◌, Bool, true, false, not, ◌&&◌, List, [], ◌∷◌, length, drop, replicate, is_some, Some, None, Ok, Err, Option, Result, ◌==◌, nat_le, nat_lt}
use Rattle.calls.specs.Refusals.{first_failed}
use Rattle.calls.specs.declared.Answer.{Answer}
use Rattle.calls.specs.declared.Refusal.{Refusal}
use Rattle.calls.specs.declared.Refusal.TheVariants.{Memory, OperationOpen, NumbersUsedUp, NetworkFull}
use Rattle.network.specs.declared.message.Kind.{Kind}
use Rattle.network.specs.declared.message.Kind.TheVariants.{Query, Ts, Store, Ack, Read, Value, Stop}
use Rattle.network.specs.declared.message.Message.{Message}
use Rattle.reading.specs.Readings.{Rules, Reading, decide}
use Rattle.reading.specs.Reports.{Report, view}
use Rattle.reading.specs.Hearing.{Hearing, enough_memory, after_value}
use Rattle.protocol.specs.Settings.{Setting}
use Rattle.protocol.specs.Clients as protocol
use Rattle.client.specs.declared.state.Client.{Client}
use Rattle.client.specs.declared.state.Phase.{Phase}
use Rattle.client.specs.declared.state.Phase.TheVariants as phase
use Rattle.client.specs.declared.state.Broadcast.{Broadcast}
use Rattle.client.specs.declared.state.Outcome.{Outcome}
use Rattle.client.specs.Showing.{client_of, outcome_of}

-- the client has no operation open
abbrev pub is_resting : {S V : Type 0} → Phase S V → Bool
is_resting phase.Idle = true
is_resting (phase.Asking value told highest) = false
is_resting (phase.Storing timestamp value acknowledged) = false
is_resting phase.Reading = false

-- the client has a read open
abbrev pub is_reading : {S V : Type 0} → Phase S V → Bool
is_reading phase.Idle = false
is_reading (phase.Asking value told highest) = false
is_reading (phase.Storing timestamp value acknowledged) = false
is_reading phase.Reading = true

-- the message is a VALUE
abbrev pub is_value : Kind → Bool
is_value Query = false
is_value Ts = false
is_value Store = false
is_value Ack = false
is_value Read = false
is_value Value = true
is_value Stop = false

-- the message is a VALUE of the client's open read
abbrev pub hears_value : {S V : Type 0} → Client S V → Message S V → Kind → Bool
hears_value x m kind = is_reading x.phase && (m.number == x.number && is_value kind)

-- how many messages go to the n servers
abbrev pub sending : {S V : Type 0} → ℕ → Option (Broadcast S V) → ℕ
sending n None = 0
sending n (Some x) = n

-- an outcome, unless it sends more messages than there is room
abbrev pub Fitting : {S V : Type 0} → (n room : ℕ) → Outcome S V → Result (Outcome S V) Refusal → Type 0
Fitting n room o (Ok r) = (r ≡ o) × (sending n o.broadcast ≤ room)
Fitting n room o (Err e) = (e ≡ NetworkFull) × (room < sending n o.broadcast)

-- a VALUE that may not end the read: it is heard where nothing is decided, and where it would end the read, the reports from the i-th on stay
abbrev pub Tried : {S V : Type 0} → Rules S V → S × V → ℕ → List (Report S V) → ℕ → S → V → Option (S × V) → List (Report S V) → Type 0
Tried K d i p b t v None q = Hearing K d p b t v None q
Tried K d i p b t v (Some pair) q =
    (decide K (after_value K d p b t v) (after_value K d p b t v).watched ≡ Some pair) × (drop i q ≡ drop i p)

-- a VALUE where there is room for so many messages: it is heard, unless it ends the read and STOP to every server finds no room
abbrev pub Within : {S V : Type 0} → Rules S V → S × V → ℕ → List (Report S V) → ℕ → S → V → Result (Option (S × V)) Refusal → List (Report S V) → Type 0
Within K d room p b t v (Ok r) q = Hearing K d p b t v r q × (is_some r ≡ true → K.n ≤ room)
Within K d room p b t v (Err e) q =
    (e ≡ NetworkFull) × (room < K.n) × (is_some (decide K (after_value K d p b t v) (after_value K d p b t v).watched) ≡ true) × (q ≡ p)

module _ {S V : Type 0} (K : Setting S V) (d : S × V) where
  -- what the protocol makes of a message, for the client with these reports
  abbrev pub expected : Client S V → List (Report S V) → Message S V → Kind → protocol.Outcome S V
  expected x p m kind = protocol.takes K kind (client_of x (view K.rules.above d K.rules.n p)) m

  -- the outcome is what the protocol says, the reports show what the client knows, and the rest of their memory stays
  pub record Weighed (p : List (Report S V)) (m : Message S V) (e : protocol.Outcome S V) (room : ℕ) (o : Outcome S V) (q : List (Report S V)) : Type 0 where
    pub outcome_is : outcome_of K.rules.n m.client o (view K.rules.above d K.rules.n q) ≡ e
    pub fits : length e.sent ≤ room
    pub rest_after : drop (K.rules.n * (K.rules.n + 1)) q ≡ drop (K.rules.n * (K.rules.n + 1)) p

  -- weighed: the outcome, or the refusal of more messages than there is room, which leaves the reports as they were
  abbrev pub Weighs : List (Report S V) → Message S V → protocol.Outcome S V → ℕ → Result (Outcome S V) Refusal → List (Report S V) → Type 0
  Weighs p m e room (Ok o) q = Weighed p m e room o q
  Weighs p m e room (Err refusal) q = (refusal ≡ NetworkFull) × (room < length e.sent) × (q ≡ p)

  -- whether and why a message is refused
  abbrev pub refusal : Client S V → List (Report S V) → Message S V → Kind → ℕ → Option Refusal
  refusal x p m kind room =
      first_failed ((not (enough_memory K.rules.n p m.server), Memory) ∷ ((nat_lt room (length (expected x p m kind).sent), NetworkFull) ∷ []))

  -- a message taken in: client, reports, answer and what goes to the servers are as the protocol says; refused: all is as it was
  abbrev pub TakenIn : Client S V → List (Report S V) → Message S V → Kind → ℕ → Result (Answer S V × Option (Broadcast S V)) Refusal → Client S V → List (Report S V) → Type 0
  TakenIn x p m kind room (Ok given) x' p' =
      (refusal x p m kind room ≡ None)
      × (outcome_of K.rules.n m.client (record { client = x'; answer = given.0; broadcast = given.1 }) (view K.rules.above d K.rules.n p') ≡ expected x p m kind)
      × (drop (K.rules.n * (K.rules.n + 1)) p' ≡ drop (K.rules.n * (K.rules.n + 1)) p)
  TakenIn x p m kind room (Err e) x' p' = (refusal x p m kind room ≡ Some e) × (x' ≡ x) × (p' ≡ p)

  -- whether and why an operation's beginning is refused by its client
  abbrev pub begin_refusal : Client S V → ℕ → Option Refusal
  begin_refusal x room =
      first_failed
      ((not (is_resting x.phase), OperationOpen)
      ∷ ((nat_le 4294967295 x.number, NumbersUsedUp) ∷ ((nat_lt room K.rules.n, NetworkFull) ∷ [])))

  -- begun: client, answer and what goes to the servers are as the protocol says; refused: the client is as it was
  abbrev pub BegunWrite : Client S V → ℕ → V → ℕ → Result (Answer S V × Option (Broadcast S V)) Refusal → Client S V → Type 0
  BegunWrite x c v room (Ok given) x' =
      (begin_refusal x room ≡ None)
      × ((known : Reading S V) → outcome_of K.rules.n c (record { client = x'; answer = given.0; broadcast = given.1 }) known ≡ protocol.begins_write K c (client_of x known) v)
  BegunWrite x c v room (Err e) x' = (begin_refusal x room ≡ Some e) × (x' ≡ x)

  -- begun: no entry reports anything, so that nothing is known; refused: client and reports are as they were
  abbrev pub BegunRead : Client S V → List (Report S V) → ℕ → ℕ → Result (Answer S V × Option (Broadcast S V)) Refusal → Client S V → List (Report S V) → Type 0
  BegunRead x p c room (Ok given) x' p' =
      (begin_refusal x room ≡ None)
      × (outcome_of K.rules.n c (record { client = x'; answer = given.0; broadcast = given.1 }) (view K.rules.above d K.rules.n p') ≡ protocol.begins_read K c (client_of x (view K.rules.above d K.rules.n p)))
      × (p' ≡ replicate (length p) None)
  BegunRead x p c room (Err e) x' p' = (begin_refusal x room ≡ Some e) × (x' ≡ x) × (p' ≡ p)
