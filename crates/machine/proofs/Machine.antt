-- The register's protocol as a machine over typed messages, with the history of what happened.
use Rattle.std.proofs.Common.{ℕ, zero, suc, Bool, true, false, cond, not, ◌&&◌, eqb, ltb, leb, List, [], ◌∷◌, ◌++◌, length, Some, None, Option}
use Rattle.timestamps.specs.Laws.{higher}
use Rattle.reading.specs.Readings.{Reading, unread, updated, level, backers, heard, decide}
use Rattle.server.specs.declared.state.Listener.{Listener}
use Rattle.server.specs.Serving.{ServerState}
use Rattle.protocol.specs.Settings.{Setting}
use Rattle.protocol.specs.Clients.{Phase, idle, asking, storing, reading, Client, to_all, is_idle, in_phase}
use Rattle.protocol.specs.Protocol.{lift}

-- a message between client c and server b, with the number k of the client's operation
pub data Msg (S V : Type 0) : Type 0 where
  query : (c b k : ℕ) → Msg S V
  ts : (c b k : ℕ) → S → Msg S V
  store : (c b k : ℕ) → S → V → Msg S V
  ack : (c b k : ℕ) → S → Msg S V
  read : (c b k : ℕ) → Msg S V
  value : (c b k : ℕ) → S → V → Msg S V
  stop : (c b k : ℕ) → Msg S V

-- what happened to operation k of client c: it began, with the value if it is a write; a write chose its timestamp; it finished, with the value if it is a read, on a set of servers; a write found no timestamp left
pub data Event (S V : Type 0) : Type 0 where
  begun : (c k : ℕ) → Option V → Event S V
  chose : (c k : ℕ) → S → V → Event S V
  finished : (c k : ℕ) → S → Option V → (ℕ → Bool) → Event S V
  spent : (c k : ℕ) → Event S V

-- the whole register: the faulty servers, all servers, all clients, the messages under way, and what happened, the newest event first
pub record State (S V : Type 0) : Type 0 where
  pub faulty : ℕ → Bool
  pub servers : ℕ → ServerState S V
  pub clients : ℕ → Client S V
  pub queue : List (Msg S V)
  pub history : List (Event S V)

-- what may be asked of the register: a client begins to write or to read; the message at a place is delivered; a server turns faulty; a message of a faulty server is forged
pub data Call (S V : Type 0) : Type 0 where
  write : ℕ → V → Call S V
  read : ℕ → Call S V
  deliver : ℕ → Call S V
  turn : ℕ → Call S V
  forge : Msg S V → Call S V

module _ {S V : Type 0} where
  -- the server that a message names
  abbrev pub server_of : Msg S V → ℕ
  server_of (query c b k) = b
  server_of (ts c b k s) = b
  server_of (store c b k s v) = b
  server_of (ack c b k s) = b
  server_of (Msg.read c b k) = b
  server_of (value c b k s v) = b
  server_of (stop c b k) = b

  -- the client that a message names
  abbrev pub client_of : Msg S V → ℕ
  client_of (query c b k) = c
  client_of (ts c b k s) = c
  client_of (store c b k s v) = c
  client_of (ack c b k s) = c
  client_of (Msg.read c b k) = c
  client_of (value c b k s v) = c
  client_of (stop c b k) = c

  -- server b becomes x and sends messages
  abbrev pub set_server : State S V → ℕ → List (Msg S V) → ServerState S V → List (Msg S V) → State S V
  set_server σ b rest x ms =
      record { faulty = σ.faulty; servers = updated σ.servers b x; clients = σ.clients; queue = rest ++ ms; history = σ.history }

  -- server b does f with a message; a faulty one takes it and does nothing
  abbrev pub at_server : State S V → ℕ → List (Msg S V) → (ServerState S V → ServerState S V × List (Msg S V)) → State S V
  at_server σ b rest f =
      cond (σ.faulty b) (set_server σ b rest (σ.servers b) []) (set_server σ b rest (f (σ.servers b)).0 (f (σ.servers b)).1)

  -- client c becomes x, sends messages, and makes events
  abbrev pub set_client : State S V → ℕ → List (Msg S V) → Client S V → List (Msg S V) → List (Event S V) → State S V
  set_client σ c rest x ms es =
      record { faulty = σ.faulty; servers = σ.servers; clients = updated σ.clients c x; queue = rest ++ ms; history = es ++ σ.history }

  -- a message is taken, and nothing else changes
  abbrev pub dropped : State S V → List (Msg S V) → State S V
  dropped σ rest = record { faulty = σ.faulty; servers = σ.servers; clients = σ.clients; queue = rest; history = σ.history }

  -- a server turns faulty
  abbrev pub turned : State S V → ℕ → State S V
  turned σ b = record { faulty = updated σ.faulty b true; servers = σ.servers; clients = σ.clients; queue = σ.queue; history = σ.history }

  -- a forged message is sent
  abbrev pub forged : State S V → Msg S V → State S V
  forged σ m = record { faulty = σ.faulty; servers = σ.servers; clients = σ.clients; queue = σ.queue ++ (m ∷ []); history = σ.history }

  -- QUERY: the server answers TS with the timestamp held
  abbrev pub server_query : (c b k : ℕ) → ServerState S V → ServerState S V × List (Msg S V)
  server_query c b k x = (x, ts c b k x.timestamp ∷ [])

  -- a server that listens to client c otherwise
  abbrev pub listening_by : ServerState S V → ℕ → Listener S → ServerState S V
  listening_by x c e = record { timestamp = x.timestamp; value = x.value; listener = updated x.listener c e }

  -- READ with a number above the last one: the server listens from the timestamp held, and answers VALUE with the pair held
  abbrev pub server_read : (c b k : ℕ) → ServerState S V → ServerState S V × List (Msg S V)
  server_read c b k x =
      cond (ltb (x.listener c).number k)
      (listening_by x c (record { number = k; listening = true; start = x.timestamp }), value c b k x.timestamp x.value ∷ []) (x, [])

  -- STOP with a number not below the last one: the server no longer listens
  abbrev pub server_stop : (c b k : ℕ) → ServerState S V → ServerState S V × List (Msg S V)
  server_stop c b k x =
      (cond (leb (x.listener c).number k) (listening_by x c (record { number = k; listening = false; start = (x.listener c).start })) x, [])

module _ {S V : Type 0} (K : Setting S V) where
  -- a pair, passed by server b to client c if the server listens to it from a timestamp not above the pair's
  abbrev pub passed_to : (b c : ℕ) → Listener S → S → V → List (Msg S V)
  passed_to b c e s v = cond (e.listening && not (K.rules.above e.start s)) (value c b e.number s v ∷ []) []

  -- a pair, passed by server b to the clients below a bound
  abbrev pub passed_on : ℕ → ℕ → (ℕ → Listener S) → S → V → List (Msg S V)
  passed_on b zero listener s v = []
  passed_on b (suc c) listener s v = passed_on b c listener s v ++ passed_to b c (listener c) s v

  -- STORE: the server holds the pair if its timestamp is above the one held, answers ACK, and passes the pair on
  abbrev pub server_store : (c b k : ℕ) → S → V → ServerState S V → ServerState S V × List (Msg S V)
  server_store c b k s v x = (
    record {
      timestamp = cond (K.rules.above s x.timestamp) s x.timestamp;
      value = cond (K.rules.above s x.timestamp) v x.value;
      listener = x.listener;
    },
    ack c b k s ∷ passed_on b K.client_count x.listener s v,
  )

  -- a quorum told its timestamps: the write chooses the next one and stores its pair, or none is left and it ends
  abbrev pub chosen : State S V → ℕ → List (Msg S V) → V → Option S → State S V
  chosen σ c rest v None = set_client σ c rest (in_phase (σ.clients c) idle) [] (spent c (σ.clients c).number ∷ [])
  chosen σ c rest v (Some s) =
      set_client σ c rest (record { number = (σ.clients c).number; last = s; phase = storing s v (λ b. false) })
      (to_all K.rules.n (λ b. store c b (σ.clients c).number s v)) (chose c (σ.clients c).number s v ∷ [])

  -- these servers told their timestamps, of which t is the highest: once they are a quorum, the write goes on
  abbrev pub asked : State S V → ℕ → List (Msg S V) → V → (ℕ → Bool) → S → State S V
  asked σ c rest v told t =
      cond (K.rules.quorum told) (chosen σ c rest v (K.successor c t (σ.clients c).last))
      (set_client σ c rest (in_phase (σ.clients c) (asking v told t)) [] [])

  -- TS of server b, for the open operation: the first of each server counts
  abbrev pub on_ts : State S V → (c b : ℕ) → S → List (Msg S V) → Phase S V → State S V
  on_ts σ c b s rest idle = dropped σ rest
  on_ts σ c b s rest (storing t v acks) = dropped σ rest
  on_ts σ c b s rest (reading r) = dropped σ rest
  on_ts σ c b s rest (asking v told t) = cond (told b) (dropped σ rest) (asked σ c rest v (updated told b true) (higher K.rules.above t s))

  -- these servers acknowledged the pair: once they are a quorum, the write is done
  abbrev pub stored : State S V → ℕ → List (Msg S V) → S → V → (ℕ → Bool) → State S V
  stored σ c rest s v acks =
      cond (K.rules.quorum acks) (set_client σ c rest (in_phase (σ.clients c) idle) [] (finished c (σ.clients c).number s None acks ∷ []))
      (set_client σ c rest (in_phase (σ.clients c) (storing s v acks)) [] [])

  -- ACK of server b, for the open operation: it counts if it has the timestamp that is stored
  abbrev pub on_ack : State S V → (c b : ℕ) → S → List (Msg S V) → Phase S V → State S V
  on_ack σ c b s rest idle = dropped σ rest
  on_ack σ c b s rest (asking v told t) = dropped σ rest
  on_ack σ c b s rest (reading r) = dropped σ rest
  on_ack σ c b s rest (storing t v acks) = cond (level K.rules.above s t) (stored σ c rest t v (updated acks b true)) (dropped σ rest)

  -- the read goes on, or is done and tells the servers to stop
  abbrev pub decided : State S V → ℕ → List (Msg S V) → Reading S V → Option (S × V) → State S V
  decided σ c rest r None = set_client σ c rest (in_phase (σ.clients c) (reading r)) [] []
  decided σ c rest r (Some p) =
      set_client σ c rest (in_phase (σ.clients c) idle) (to_all K.rules.n (λ b. stop c b (σ.clients c).number))
      (finished c (σ.clients c).number p.0 (Some p.1) (backers K.rules.same r p.0 p.1) ∷ [])

  -- VALUE of server b, for the open operation: what the client knows now, and whether it is done
  abbrev pub on_value : State S V → (c b : ℕ) → S → V → List (Msg S V) → Phase S V → State S V
  on_value σ c b s v rest idle = dropped σ rest
  on_value σ c b s v rest (asking u told t) = dropped σ rest
  on_value σ c b s v rest (storing t u acks) = dropped σ rest
  on_value σ c b s v rest (reading r) =
      decided σ c rest (heard K.rules r b s v) (decide K.rules (heard K.rules r b s v) (heard K.rules r b s v).watched)

  -- a message taken from the queue reaches its server or its client; a client drops those of other operations
  abbrev pub handed : State S V → List (Msg S V) → Msg S V → State S V
  handed σ rest (query c b k) = at_server σ b rest (server_query c b k)
  handed σ rest (store c b k s v) = at_server σ b rest (server_store c b k s v)
  handed σ rest (Msg.read c b k) = at_server σ b rest (server_read c b k)
  handed σ rest (stop c b k) = at_server σ b rest (server_stop c b k)
  handed σ rest (ts c b k s) = cond (eqb k (σ.clients c).number) (on_ts σ c b s rest (σ.clients c).phase) (dropped σ rest)
  handed σ rest (ack c b k s) = cond (eqb k (σ.clients c).number) (on_ack σ c b s rest (σ.clients c).phase) (dropped σ rest)
  handed σ rest (value c b k s v) = cond (eqb k (σ.clients c).number) (on_value σ c b s v rest (σ.clients c).phase) (dropped σ rest)

  -- the message at a place, if there is one and its client and server are there, is handed over
  abbrev pub taken : State S V → Option (Msg S V × List (Msg S V)) → State S V
  taken σ None = σ
  taken σ (Some p) = cond (ltb (client_of p.0) K.client_count && ltb (server_of p.0) K.rules.n) (handed σ p.1 p.0) σ

  -- the client is there, has no operation open and a number left
  abbrev pub free : State S V → ℕ → Bool
  free σ c = ltb c K.client_count && (is_idle (σ.clients c).phase && ltb (σ.clients c).number K.most)

  -- only messages from faulty servers to clients are forged
  abbrev pub may_forge : State S V → Msg S V → Bool
  may_forge σ (query c b k) = false
  may_forge σ (store c b k s v) = false
  may_forge σ (Msg.read c b k) = false
  may_forge σ (stop c b k) = false
  may_forge σ (ts c b k s) = ltb c K.client_count && σ.faulty b
  may_forge σ (ack c b k s) = ltb c K.client_count && σ.faulty b
  may_forge σ (value c b k s v) = ltb c K.client_count && σ.faulty b

  -- a client that is free begins an operation under the next number and sends its message to every server; another does nothing
  abbrev pub begins : State S V → ℕ → Phase S V → (ℕ → ℕ → Msg S V) → Option V → State S V
  begins σ c phase message o =
      cond (free σ c)
      (set_client σ c σ.queue (record { number = suc (σ.clients c).number; last = (σ.clients c).last; phase = phase })
      (to_all K.rules.n (λ b. message b (suc (σ.clients c).number))) (begun c (suc (σ.clients c).number) o ∷ [])) σ

  -- what a call makes of the state, where the queue has room
  abbrev pub made : State S V → Call S V → State S V
  made σ (write c v) = begins σ c (asking v (λ b. false) K.lowest) (λ b k. query c b k) (Some v)
  made σ (Call.read c) = begins σ c (reading (unread K.lowest K.initial)) (λ b k. Msg.read c b k) None
  made σ (deliver k) = taken σ (lift k σ.queue)
  made σ (turn b) = cond (ltb b K.rules.n && K.rules.fail_prone (updated σ.faulty b true)) (turned σ b) σ
  made σ (forge m) = cond (may_forge σ m) (forged σ m) σ

  -- a call that would overfill the queue is refused
  abbrev pub step : State S V → Call S V → State S V
  step σ call = cond (leb (length (made σ call).queue) K.capacity) (made σ call) σ

  -- at first no server is faulty, each holds the initial pair and listens to no client, and nothing is under way
  abbrev pub opened : State S V
  opened = record {
    faulty = λ b. false;
    servers = λ b. record { timestamp = K.lowest; value = K.initial; listener = λ c. record { number = 0; listening = false; start = K.lowest } };
    clients = λ c. record { number = 0; last = K.lowest; phase = idle };
    queue = [];
    history = [];
  }

  -- the state after calls, the newest call first
  abbrev pub run : List (Call S V) → State S V
  run [] = opened
  run (call ∷ calls) = step (run calls) call
