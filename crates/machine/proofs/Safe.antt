-- What every state of a run keeps: the part from which the order of timestamps and the genuineness of reads follow.
use Rattle.std.proofs.Common.{◌≡◌, ℕ, ◌<◌, ◌≤◌, Bool, true, false, ◌⊎◌, List, [], ◌∷◌, Some, None, Option, sym, refl, ◌∙◌, subst, inl, inr, le_refl, arith}
use Rattle.reading.specs.Readings.{Reading, updated}
use Rattle.server.specs.declared.state.Listener.{Listener}
use Rattle.server.specs.Serving.{ServerState}
use Rattle.protocol.specs.Settings.{Setting, Lawful}
use Rattle.protocol.specs.Clients.{Phase, idle, asking, storing, reading, Client}
use Rattle.protocol.specs.Runs.{is_asking, In, there, Before, then, since}
use Rattle.machine.proofs.Machine.{Msg, query, ts, store, ack, value, stop, Event, begun, chose, finished, State, set_server}
use Rattle.machine.proofs.Base.{updated_elim, All, all_map, all-++, Le, le_trans}

module _ {S V : Type 0} where
  -- some operation finished with timestamp s on the servers q
  pub record Finish (h : List (Event S V)) (s : S) (q : ℕ → Bool) : Type 0 where
    pub c : ℕ
    pub k : ℕ
    pub o : Option V
    pub at : In (finished c k s o q) h

  -- some operation finished with timestamp s on the servers q before operation k of client c began
  pub record Prior (h : List (Event S V)) (c k : ℕ) (s : S) (q : ℕ → Bool) : Type 0 where
    pub c₁ : ℕ
    pub k₁ : ℕ
    pub o₁ : Option V
    pub o : Option V
    pub at : Before (finished c₁ k₁ s o₁ q) (begun c k o) h

  before_in : (a b : Event S V) (h : List (Event S V)) → Before a b h → In a h
  before_in a b (x ∷ h) (then i) = there i
  before_in a b (x ∷ h) (since p) = there (before_in a b h p)
  before_in a b [] p = elim p [ ]

  pub prior_finish : {h : List (Event S V)} {c k : ℕ} {s : S} {q : ℕ → Bool} → Prior h c k s q → Finish h s q
  prior_finish {h} p = record { c = p.c₁; k = p.k₁; o = p.o₁; at = before_in _ _ h p.at }

module _ {S V : Type 0} (K : Setting S V) where
  -- the initial pair, or a pair that a write chose
  abbrev pub Genuine : List (Event S V) → S → V → Type 0
  Genuine h s v = ((s ≡ K.lowest) × (v ≡ K.initial)) ⊎ ((c : ℕ) × (k : ℕ) × In (chose c k s v) h)

  -- what a correct server b, now x, has told client c, now at number current, in operation k: genuine, held by the server, and not below what finished on it before
  pub record SeenAt (h : List (Event S V)) (current : ℕ) (x : ServerState S V) (c b k : ℕ) (s : S) (v : V) : Type 0 where
    pub number : k ≤ current
    pub genuine : Genuine h s v
    pub held : Le K s x.timestamp
    pub asked : k ≤ (x.listener c).number
    pub from : (x.listener c).number ≡ k → Le K (x.listener c).start s
    pub floor : (s₁ : S) (q : ℕ → Bool) → Prior h c k s₁ q → q b ≡ true → Le K s₁ s

  -- a correct server has told a client a pair, in the state as it is
  abbrev pub Seen : State S V → (c b k : ℕ) → S → V → Type 0
  Seen σ c b k s v = SeenAt σ.history (σ.clients c).number (σ.servers b) c b k s v

  -- a correct server has told a client a timestamp that is not below what finished on it before
  pub record Told (σ : State S V) (c b k : ℕ) (s : S) : Type 0 where
    pub number : k ≤ (σ.clients c).number
    pub floor : (s₁ : S) (q : ℕ → Bool) → Prior σ.history c k s₁ q → q b ≡ true → Le K s₁ s

  -- a message that a client, or a correct server, may have sent
  abbrev pub Good : State S V → Msg S V → Type 0
  Good σ (query c b k) = k ≤ (σ.clients c).number
  Good σ (ts c b k s) = σ.faulty b ≡ false → Told σ c b k s
  Good σ (store c b k s v) = In (chose c k s v) σ.history
  Good σ (ack c b k s) = σ.faulty b ≡ false → Le K s (σ.servers b).timestamp
  Good σ (Msg.read c b k) = k ≤ (σ.clients c).number
  Good σ (value c b k s v) = σ.faulty b ≡ false → Seen σ c b k s v
  Good σ (stop c b k) = k ≤ (σ.clients c).number

  -- how a correct server that holds a timestamp listens to client c: from a start not above it, and not below what finished on the server before
  pub record GoodListener (h : List (Event S V)) (current : ℕ) (b c : ℕ) (e : Listener S) (timestamp : S) : Type 0 where
    pub number : e.number ≤ current
    pub floor : e.listening ≡ true → (s₁ : S) (q : ℕ → Bool) → Prior h c e.number s₁ q → q b ≡ true → Le K s₁ e.start
    pub held : Le K e.start timestamp

  -- a correct server: it holds a genuine pair, not below any that finished on it
  pub record GoodServer (h : List (Event S V)) (cs : ℕ → Client S V) (b : ℕ) (x : ServerState S V) : Type 0 where
    pub genuine : Genuine h x.timestamp x.value
    pub reach : (s : S) (q : ℕ → Bool) → Finish h s q → q b ≡ true → Le K s x.timestamp
    pub listener : (c : ℕ) → GoodListener h (cs c).number b c (x.listener c) x.timestamp

  -- a read began, and what it keeps of correct servers was told by them
  pub record ReadOk (σ : State S V) (c k : ℕ) (r : Reading S V) : Type 0 where
    pub origin : In (begun c k None) σ.history
    pub latest : (b : ℕ) → σ.faulty b ≡ false → r.entered b ≡ true → Seen σ c b k (r.latest b) (r.latest_value b)
    pub evidence : (b : ℕ) (s : S) (v : V) → σ.faulty b ≡ false → r.evidence b s ≡ Some v → Seen σ c b k s v

  -- a write that asks began, and its highest timestamp is not below what finished on a server that told
  pub record AskOk (σ : State S V) (c k : ℕ) (v : V) (told : ℕ → Bool) (t : S) : Type 0 where
    pub origin : In (begun c k (Some v)) σ.history
    pub floor : (b : ℕ) → σ.faulty b ≡ false → told b ≡ true → (s₁ : S) (q : ℕ → Bool) → Prior σ.history c k s₁ q → q b ≡ true → Le K s₁ t

  -- a write that stores chose its pair, and the correct servers that acknowledged it hold it or a higher one
  pub record StoreOk (σ : State S V) (c k : ℕ) (s : S) (v : V) (acks : ℕ → Bool) : Type 0 where
    pub origin : In (chose c k s v) σ.history
    pub held : (b : ℕ) → σ.faulty b ≡ false → acks b ≡ true → Le K s (σ.servers b).timestamp

  -- a client in operation k
  abbrev pub GoodPhase : State S V → ℕ → ℕ → Phase S V → Type 0
  GoodPhase σ c k idle = Unit {0}
  GoodPhase σ c k (asking v told t) = AskOk σ c k v told t
  GoodPhase σ c k (storing s v acks) = StoreOk σ c k s v acks
  GoodPhase σ c k (reading r) = ReadOk σ c k r

  -- a chosen pair: owned by its client, not above the last that the client chose, above the lowest, and no longer asked for
  pub record Choice (h : List (Event S V)) (cs : ℕ → Client S V) (c k : ℕ) (s : S) (v : V) : Type 0 where
    pub number : k ≤ (cs c).number
    pub owner : K.owner s ≡ c
    pub last : Le K s (cs c).last
    pub origin : Before (begun c k (Some v)) (chose c k s v) h
    pub low : K.rules.above s K.lowest ≡ true
    pub shut : is_asking (cs c).phase ≡ true → k < (cs c).number

  -- what the history keeps, with the clients as they are
  pub record Past (h : List (Event S V)) (cs : ℕ → Client S V) : Type 0 where
    pub number_begun : (c k : ℕ) (o : Option V) → In (begun c k o) h → k ≤ (cs c).number
    pub number_finished : (c k : ℕ) (s : S) (o : Option V) (q : ℕ → Bool) → In (finished c k s o q) h → k ≤ (cs c).number
    pub choice : (c k : ℕ) (s : S) (v : V) → In (chose c k s v) h → Choice h cs c k s v
    pub unique : (c k c' k' : ℕ) (s : S) (v v' : V) → In (chose c k s v) h → In (chose c' k' s v') h → (c ≡ c') × (k ≡ k') × (v ≡ v')
    pub once : (c k : ℕ) (s s' : S) (v v' : V) → In (chose c k s v) h → In (chose c k s' v') h → s ≡ s'
    pub wrote : (c k : ℕ) (s : S) (q : ℕ → Bool) → In (finished c k s None q) h → (v : V) × Before (chose c k s v) (finished c k s None q) h
    pub enough : (s : S) (q : ℕ → Bool) → Finish h s q → K.rules.quorum q ≡ true
    pub writes : (c k : ℕ) (s₁ s : S) (v : V) (q : ℕ → Bool) → Prior h c k s₁ q → In (chose c k s v) h → K.rules.above s s₁ ≡ true
    pub reads : (c k : ℕ) (s₁ s : S) (v : V) (q₁ q : ℕ → Bool) → Prior h c k s₁ q₁ → In (finished c k s (Some v) q) h → Le K s₁ s
    pub read_began : (c k : ℕ) (s : S) (v : V) (q : ℕ → Bool) → In (finished c k s (Some v) q) h → Before (begun c k None) (finished c k s (Some v) q) h
    pub source : (c k : ℕ) (s : S) (v : V) (q : ℕ → Bool) → In (finished c k s (Some v) q) h →
        ((s ≡ K.lowest) × (v ≡ K.initial)) ⊎ ((c' : ℕ) × (k' : ℕ) × Before (chose c' k' s v) (finished c k s (Some v) q) h)

  -- the faulty servers are fail-prone, and messages, correct servers, clients and history are as they should be
  pub record Safe (σ : State S V) : Type 0 where
    pub faulty_fail_prone : K.rules.fail_prone σ.faulty ≡ true
    pub messages : All (Good σ) σ.queue
    pub servers : (b : ℕ) → σ.faulty b ≡ false → GoodServer σ.history σ.clients b (σ.servers b)
    pub clients : (c : ℕ) → GoodPhase σ c (σ.clients c).number (σ.clients c).phase
    pub past : Past σ.history σ.clients

  -- one state comes after another: faults, held timestamps, numbers, history and listeners grow, and old operations get no new predecessors
  pub record Later (σ τ : State S V) : Type 0 where
    pub correct : (b : ℕ) → τ.faulty b ≡ false → σ.faulty b ≡ false
    pub held : (b : ℕ) → Le K (σ.servers b).timestamp (τ.servers b).timestamp
    pub number : (c : ℕ) → (σ.clients c).number ≤ (τ.clients c).number
    pub history : (e : Event S V) → In e σ.history → In e τ.history
    pub prior : (c k : ℕ) (s : S) (q : ℕ → Bool) → k ≤ (σ.clients c).number → Prior τ.history c k s q → Prior σ.history c k s q
    pub listener : (b c : ℕ) → ((σ.servers b).listener c).number ≤ ((τ.servers b).listener c).number
    pub start : (b c : ℕ) → ((τ.servers b).listener c).number ≡ ((σ.servers b).listener c).number → ((τ.servers b).listener c).start ≡ ((σ.servers b).listener c).start

  -- a server moves on
  pub record Moves (x y : ServerState S V) : Type 0 where
    pub held : Le K x.timestamp y.timestamp
    pub listener : (c : ℕ) → (x.listener c).number ≤ (y.listener c).number
    pub start : (c : ℕ) → (y.listener c).number ≡ (x.listener c).number → (y.listener c).start ≡ (x.listener c).start

  module _ (L : Lawful K) where
    module _ {σ τ : State S V} (E : Later σ τ) where
      pub genuine_later : {s : S} {v : V} → Genuine σ.history s v → Genuine τ.history s v
      genuine_later (inl e) = inl e
      genuine_later (inr (c, k, i)) = inr (c, k, E.history _ i)

      pub seen_later : {c b k : ℕ} {s : S} {v : V} → Seen σ c b k s v → Seen τ c b k s v
      seen_later {c} {b} {k} {s} {v} x = record {
        number = let a = x.number in let d = E.number c in omega arith;
        genuine = genuine_later x.genuine;
        held = le_trans K L s _ _ x.held (E.held b);
        asked = let a = x.asked in let d = E.listener b c in omega arith;
        from = λ e.
            let a = x.asked in
            let d = E.listener b c in
            let f : ((σ.servers b).listener c).number ≡ k = omega arith in
            subst (λ z. Le K z s) (sym (E.start b c (e ∙ sym f))) (x.from f);
        floor = λ s₁ q p i. x.floor s₁ q (E.prior c k s₁ q x.number p) i;
      }

      pub told_later : {c b k : ℕ} {s : S} → Told σ c b k s → Told τ c b k s
      told_later {c} {b} {k} {s} x = record {
        number = let a = x.number in let d = E.number c in omega arith;
        floor = λ s₁ q p i. x.floor s₁ q (E.prior c k s₁ q x.number p) i;
      }

      pub good_later : (l : Msg S V) → Good σ l → Good τ l
      good_later (query c b k) g = let d = E.number c in omega arith
      good_later (ts c b k s) g = λ f. told_later (g (E.correct b f))
      good_later (store c b k s v) g = E.history _ g
      good_later (ack c b k s) g = λ f. le_trans K L s _ _ (g (E.correct b f)) (E.held b)
      good_later (Msg.read c b k) g = let d = E.number c in omega arith
      good_later (value c b k s v) g = λ f. seen_later (g (E.correct b f))
      good_later (stop c b k) g = let d = E.number c in omega arith

      pub phase_later : (c k : ℕ) (x : Phase S V) → k ≤ (σ.clients c).number → GoodPhase σ c k x → GoodPhase τ c k x
      phase_later c k idle h g = tt
      phase_later c k (asking v told t) h g = record {
        origin = E.history _ g.origin;
        floor = λ b f i s₁ q p j. g.floor b (E.correct b f) i s₁ q (E.prior c k s₁ q h p) j;
      }
      phase_later c k (storing s v acks) h g = record {
        origin = E.history _ g.origin;
        held = λ b f i. le_trans K L s _ _ (g.held b (E.correct b f) i) (E.held b);
      }
      phase_later c k (reading r) h g = record {
        origin = E.history _ g.origin;
        latest = λ b f i. seen_later (g.latest b (E.correct b f) i);
        evidence = λ b s v f i. seen_later (g.evidence b s v (E.correct b f) i);
      }

    pub stays : (x : ServerState S V) → Moves x x
    stays x = record { held = L.timestamps.irreflexive x.timestamp; listener = λ c. le_refl _; start = λ c e. refl }

    module _ (σ : State S V) (b : ℕ) (rest : List (Msg S V)) (x : ServerState S V) (ms : List (Msg S V)) (M : Moves (σ.servers b) x) where
      moves_any : (d : ℕ) → Moves (σ.servers d) (updated σ.servers b x d)
      moves_any d = updated_elim (Moves (σ.servers d)) σ.servers b x d (λ e. subst (λ i. Moves (σ.servers i) x) e M) (stays (σ.servers d))

      pub server_later : Later σ (set_server σ b rest x ms)
      server_later = record {
        correct = λ d f. f;
        held = λ d. (moves_any d).held;
        number = λ c. le_refl _;
        history = λ e i. i;
        prior = λ c k s q h p. p;
        listener = λ d c. (moves_any d).listener c;
        start = λ d c. (moves_any d).start c;
      }

      pub safe_server : Safe σ → All (Good σ) rest → (σ.faulty b ≡ false → GoodServer σ.history σ.clients b x) → All (Good (set_server σ b rest x ms)) ms → Safe (set_server σ b rest x ms)
      safe_server I r g l = record {
        faulty_fail_prone = I.faulty_fail_prone;
        messages = all-++ (Good (set_server σ b rest x ms)) rest ms (all_map (Good σ) (Good (set_server σ b rest x ms)) (good_later server_later) rest r) l;
        servers = λ d f. updated_elim (λ y. GoodServer σ.history σ.clients d y) σ.servers b x d
            (λ e. subst (λ i. GoodServer σ.history σ.clients i x) e (g (subst (λ i. σ.faulty i ≡ false) (sym e) f))) (I.servers d f);
        clients = λ c. phase_later server_later c (σ.clients c).number (σ.clients c).phase (le_refl _) (I.clients c);
        past = I.past;
      }
