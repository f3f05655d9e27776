-- The protocol at one client: how it begins an operation, and what it does with a message.
use Rattle.std.specs.Prelude.{ℕ, zero, suc, Bool, true, false, cond, List, [], ◌∷◌, ◌++◌, Some, None, Option, ◌==◌}
use Rattle.calls.specs.declared.Answer.{Answer}
use Rattle.calls.specs.declared.Answer.TheVariants.{Begun, Taken, FinishedWrite, FinishedRead, Spent}
use Rattle.network.specs.Kinds.{byte_of}
use Rattle.network.specs.declared.message.Kind.{Kind}
use Rattle.network.specs.declared.message.Kind.TheVariants.{Query, Ts, Store, Ack, Read, Value, Stop}
use Rattle.network.specs.declared.message.Message.{Message}
use Rattle.timestamps.specs.Laws.{higher}
use Rattle.reading.specs.Readings.{Reading, unread, updated, level, heard, decide}
use Rattle.protocol.specs.Settings.{Setting}

-- what a client is about: nothing; asking for timestamps, to write a value, with the servers that told theirs and the highest of these; storing a pair, with the servers that acknowledged it; reading
pub data Phase (S V : Type 0) : Type 0 where
  idle : Phase S V
  asking : V → (ℕ → Bool) → S → Phase S V
  storing : S → V → (ℕ → Bool) → Phase S V
  reading : Reading S V → Phase S V

-- a client: the number of its last operation, the last timestamp that it chose, and its phase
pub record Client (S V : Type 0) : Type 0 where
  pub number : ℕ
  pub last : S
  pub phase : Phase S V

-- what a client is after a call or a message, what is answered, and the messages that it sends, in their order
pub record Outcome (S V : Type 0) : Type 0 where
  pub after : Client S V
  pub answer : Answer S V
  pub sent : List (Message S V)

-- f 0, f 1, .. f (n - 1)
abbrev pub to_all : {A : Type 0} → ℕ → (ℕ → A) → List A
to_all zero f = []
to_all (suc n) f = to_all n f ++ (f n ∷ [])

module _ {S V : Type 0} where
  -- the client has no operation open
  abbrev pub is_idle : Phase S V → Bool
  is_idle idle = true
  is_idle (asking v told t) = false
  is_idle (storing t v acks) = false
  is_idle (reading r) = false

  -- a client in another phase of its operation
  abbrev pub in_phase : Client S V → Phase S V → Client S V
  in_phase x phase = record { number = x.number; last = x.last; phase = phase }

  -- a message that the client leaves alone
  abbrev pub unchanged : Client S V → Outcome S V
  unchanged x = record { after = x; answer = Taken; sent = [] }

  -- a message of client c to server b
  abbrev pub from_client : (c b : ℕ) → Kind → ℕ → S → V → Message S V
  from_client c b kind k t v = record { client = c; server = b; kind = byte_of kind; number = k; timestamp = t; value = v }

module _ {S V : Type 0} (K : Setting S V) where
  -- a message with the initial timestamp and value, to every server in server order
  abbrev pub plain_to_all : ℕ → Kind → ℕ → List (Message S V)
  plain_to_all c kind k = to_all K.rules.n (λ b. from_client c b kind k K.lowest K.initial)

  -- an operation begins under the next number: its message goes to every server
  abbrev pub begins : ℕ → Client S V → Phase S V → Kind → Outcome S V
  begins c x phase kind = record {
    after = record { number = suc x.number; last = x.last; phase = phase };
    answer = Begun c (suc x.number);
    sent = plain_to_all c kind (suc x.number);
  }

  -- a write begins by asking all servers for their timestamps
  abbrev pub begins_write : ℕ → Client S V → V → Outcome S V
  begins_write c x v = begins c x (asking v (λ b. false) K.lowest) Query

  -- a read begins with nothing known
  abbrev pub begins_read : ℕ → Client S V → Outcome S V
  begins_read c x = begins c x (reading (unread K.lowest K.initial)) Read

  -- a quorum told its timestamps: the write has its timestamp, and STORE goes to every server; or none is left, and it ends as spent
  abbrev pub chosen : ℕ → Client S V → V → Option S → Outcome S V
  chosen c x v None = record { after = in_phase x idle; answer = Spent c x.number; sent = [] }
  chosen c x v (Some t) = record {
    after = record { number = x.number; last = t; phase = storing t v (λ b. false) };
    answer = Taken;
    sent = to_all K.rules.n (λ b. from_client c b Store x.number t v);
  }

  -- these servers told their timestamps, of which t is the highest: once they are a quorum, the write goes on
  abbrev pub asked : ℕ → Client S V → V → (ℕ → Bool) → S → Outcome S V
  asked c x v told t =
      cond (K.rules.quorum told) (chosen c x v (K.successor c t x.last))
      (record { after = in_phase x (asking v told t); answer = Taken; sent = [] })

  -- TS of the open operation: the first of each server counts
  abbrev pub on_ts : Client S V → Message S V → Phase S V → Outcome S V
  on_ts x m idle = unchanged x
  on_ts x m (storing t v acks) = unchanged x
  on_ts x m (reading r) = unchanged x
  on_ts x m (asking v told t) =
      cond (told m.server) (unchanged x) (asked m.client x v (updated told m.server true) (higher K.rules.above t m.timestamp))

  -- these servers acknowledged the pair: once they are a quorum, the write is finished
  abbrev pub stored : ℕ → Client S V → S → V → (ℕ → Bool) → Outcome S V
  stored c x t v acks =
      cond (K.rules.quorum acks) (record { after = in_phase x idle; answer = FinishedWrite c x.number t; sent = [] })
      (record { after = in_phase x (storing t v acks); answer = Taken; sent = [] })

  -- ACK of the open operation: it counts if it has the timestamp that is stored
  abbrev pub on_ack : Client S V → Message S V → Phase S V → Outcome S V
  on_ack x m idle = unchanged x
  on_ack x m (asking v told t) = unchanged x
  on_ack x m (reading r) = unchanged x
  on_ack x m (storing t v acks) =
      cond (level K.rules.above m.timestamp t) (stored m.client x t v (updated acks m.server true)) (unchanged x)

  -- the read goes on, or is finished and STOP goes to every server
  abbrev pub decided : ℕ → Client S V → Reading S V → Option (S × V) → Outcome S V
  decided c x r None = record { after = in_phase x (reading r); answer = Taken; sent = [] }
  decided c x r (Some p) = record { after = in_phase x idle; answer = FinishedRead c x.number p.0 p.1; sent = plain_to_all c Stop x.number }

  -- VALUE of the open operation: what the client knows now, and whether it is done
  abbrev pub on_value : Client S V → Message S V → Phase S V → Outcome S V
  on_value x m idle = unchanged x
  on_value x m (asking v told t) = unchanged x
  on_value x m (storing t v acks) = unchanged x
  on_value x m (reading r) =
      let r' = heard K.rules r m.server m.timestamp m.value in
      decided m.client x r' (decide K.rules r' r'.watched)

  -- a message of the open operation, by its kind; clients await TS, ACK and VALUE alone
  abbrev pub awaited : Kind → Client S V → Message S V → Outcome S V
  awaited Ts x m = on_ts x m x.phase
  awaited Ack x m = on_ack x m x.phase
  awaited Value x m = on_value x m x.phase
  awaited Query x m = unchanged x
  awaited Store x m = unchanged x
  awaited Read x m = unchanged x
  awaited Stop x m = unchanged x

  -- what a client does with a message: one with another number is dropped
  abbrev pub takes : Kind → Client S V → Message S V → Outcome S V
  takes kind x m = cond (m.number == x.number) (awaited kind x m) (unchanged x)
