-- The protocol at one server: what it does with a message, and what it sends.
use Rattle.std.specs.Prelude.{ℕ, zero, suc, ◌+◌, Bool, true, false, cond, not, ◌&&◌, List, [], ◌∷◌, ◌++◌, Some, None, Option, ◌==◌, nat_le, nat_lt}
use Rattle.network.specs.Kinds.{byte_of, kind_of}
use Rattle.network.specs.declared.message.Kind.{Kind}
use Rattle.network.specs.declared.message.Kind.TheVariants.{Query, Ts, Store, Ack, Read, Value, Stop}
use Rattle.network.specs.declared.message.Message.{Message}
use Rattle.server.specs.declared.state.Listener.{Listener}

-- what one server holds, and how it listens to each client
pub record ServerState (S V : Type 0) : Type 0 where
  pub timestamp : S
  pub value : V
  pub listener : ℕ → Listener S

-- what a server is after a message, and the messages that it sends, in their order
pub record Reaction (S V : Type 0) : Type 0 where
  pub after : ServerState S V
  pub sent : List (Message S V)

-- a function that is x at i, and elsewhere as it was
abbrev pub updated : {X : Type 0} → (ℕ → X) → ℕ → X → ℕ → X
updated f i x j = cond (i == j) x (f j)

-- a listener at first: number 0, not listening, from the lowest timestamp
abbrev pub silent : {S : Type 0} → S → Listener S
silent lowest = record { number = 0; listening = false; start = lowest }

-- a reply to a message: to its client, from its server, under its number
abbrev pub reply : {S V : Type 0} → Message S V → Kind → S → V → Message S V
reply m kind timestamp value = record { client = m.client; server = m.server; kind = byte_of kind; number = m.number; timestamp = timestamp; value = value }

-- a client is passed a timestamp if it listens, from a timestamp that is not above it
abbrev pub wants : {S : Type 0} → (S → S → Bool) → Listener S → S → Bool
wants above listener timestamp = listener.listening && not (above listener.start timestamp)

-- how many clients below the bound want the timestamp
abbrev pub wanting : {S : Type 0} → (S → S → Bool) → (ℕ → Listener S) → S → ℕ → ℕ
wanting above listener timestamp zero = 0
wanting above listener timestamp (suc client) = wanting above listener timestamp client + cond (wants above (listener client) timestamp) 1 0

-- the pair of a STORE, passed to a client under that client's last number
abbrev pub passed : {S V : Type 0} → Message S V → ℕ → Listener S → Message S V
passed m client listener =
    record { client = client; server = m.server; kind = byte_of Value; number = listener.number; timestamp = m.timestamp; value = m.value }

-- the pair of a STORE, passed to each client below the bound that wants it, in client order
abbrev pub passed_on : {S V : Type 0} → (S → S → Bool) → Message S V → (ℕ → Listener S) → ℕ → List (Message S V)
passed_on above m listener zero = []
passed_on above m listener (suc client) =
    passed_on above m listener client ++ cond (wants above (listener client) m.timestamp) (passed m client (listener client) ∷ []) []

-- the server with another pair
abbrev pub holding : {S V : Type 0} → ServerState S V → S → V → ServerState S V
holding x timestamp value = record { timestamp = timestamp; value = value; listener = x.listener }

-- the server with another listener for a client
abbrev pub listening_by : {S V : Type 0} → ServerState S V → ℕ → Listener S → ServerState S V
listening_by x client listener = record { timestamp = x.timestamp; value = x.value; listener = updated x.listener client listener }

module _ {S V : Type 0} (above : S → S → Bool) (lowest : S) (initial : V) where
  -- QUERY: TS with the timestamp held
  abbrev pub on_query : ServerState S V → Message S V → Reaction S V
  on_query x m = record { after = x; sent = reply m Ts x.timestamp initial ∷ [] }

  -- STORE: ACK with its timestamp, and its pair passed on; the pair is held if its timestamp is above the one held
  abbrev pub on_store : ℕ → ServerState S V → Message S V → Reaction S V
  on_store clients x m = record {
    after = cond (above m.timestamp x.timestamp) (holding x m.timestamp m.value) x;
    sent = reply m Ack m.timestamp initial ∷ passed_on above m x.listener clients;
  }

  -- READ with a number above the last one: the server listens from the timestamp held, and sends VALUE with what it holds
  abbrev pub on_read : ServerState S V → Message S V → Reaction S V
  on_read x m =
      cond (nat_lt (x.listener m.client).number m.number)
      (record {
        after = listening_by x m.client (record { number = m.number; listening = true; start = x.timestamp });
        sent = reply m Value x.timestamp x.value ∷ [];
      })
      (record { after = x; sent = [] })

  -- STOP with a number not below the last one: the server no longer listens
  abbrev pub on_stop : ServerState S V → Message S V → Reaction S V
  on_stop x m = record {
    after =
        cond (nat_le (x.listener m.client).number m.number)
        (listening_by x m.client (record { number = m.number; listening = false; start = (x.listener m.client).start })) x;
    sent = [];
  }

  -- a server leaves any other message alone
  abbrev pub ignored : ServerState S V → Reaction S V
  ignored x = record { after = x; sent = [] }

  -- what a correct server does with a message of a kind
  abbrev pub by_kind : Kind → ℕ → ServerState S V → Message S V → Reaction S V
  by_kind Query clients x m = on_query x m
  by_kind Store clients x m = on_store clients x m
  by_kind Read clients x m = on_read x m
  by_kind Stop clients x m = on_stop x m
  by_kind Ts clients x m = ignored x
  by_kind Ack clients x m = ignored x
  by_kind Value clients x m = ignored x

  -- what a correct server does with a message: nothing, if its byte stands for no kind
  abbrev pub by_byte : Option Kind → ℕ → ServerState S V → Message S V → Reaction S V
  by_byte (Some kind) clients x m = by_kind kind clients x m
  by_byte None clients x m = ignored x

  -- what a server does with a message: a faulty one takes it and does nothing
  abbrev pub reaction : Bool → ℕ → ServerState S V → Message S V → Reaction S V
  reaction faulty clients x m = cond faulty (ignored x) (by_byte (kind_of m.kind) clients x m)
