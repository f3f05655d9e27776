-- What every state of a run keeps: the part from which it follows that a quiet register is done.
use Rattle.std.proofs.Common.{◌≡◌, ℕ, ◌<◌, ◌≤◌, Bool, true, false, eqb, ◌≢◌, ◌⊎◌, List, Some, None, sym, refl, ap, ◌∙◌, subst, inl, inr, arith}
use Rattle.reading.specs.Readings.{Reading, among, decide}
use Rattle.server.specs.declared.state.Listener.{Listener}
use Rattle.server.specs.Serving.{ServerState}
use Rattle.protocol.specs.Settings.{Setting, Lawful}
use Rattle.protocol.specs.Clients.{Phase, idle, asking, storing, reading, Client}
use Rattle.protocol.specs.Runs.{In}
use Rattle.machine.proofs.Machine.{Msg, query, ts, store, ack, value, stop, Event, chose, State, server_of}
use Rattle.machine.proofs.Base.{t≢f, either, eq_of, eqb_same, All, Le, le_trans, le_eq}
use Rattle.machine.proofs.Safe.{Genuine, Past, Safe, Later, genuine_later}

module _ {S V : Type 0} (K : Setting S V) where
  -- where a server stands with a read: not yet asked, or listening
  abbrev pub Started : State S V → ℕ → ℕ → Reading S V → ℕ → Type 0
  Started σ c k r b =
      ((((σ.servers b).listener c).number < k) × In (Msg.read c b k) σ.queue × (r.entered b ≡ false)) ⊎
      ((((σ.servers b).listener c).number ≡ k) × (((σ.servers b).listener c).listening ≡ true) × ((r.entered b ≡ true) ⊎ ((s : S) × (v : V) × In (value c b k s v) σ.queue)))

  -- a written pair that a listening server has yet to take, or to tell, or has told
  abbrev pub Coming : State S V → ℕ → ℕ → Reading S V → ℕ → (c' k' : ℕ) → S → V → Type 0
  Coming σ c k r b c' k' s v = In (store c' b k' s v) σ.queue ⊎ (In (value c b k s v) σ.queue ⊎ ((r.entered b ≡ true) × Le K s (r.latest b)))

  -- a server has the pair as its evidence, or the pair is on its way through it
  abbrev pub Backs : State S V → ℕ → ℕ → Reading S V → ℕ → S → V → Type 0
  Backs σ c k r b s v = (r.evidence b s ≡ Some v) ⊎ (((c' : ℕ) × (k' : ℕ) × In (store c' b k' s v) σ.queue) ⊎ In (value c b k s v) σ.queue)

  -- the one watched genuine pair that every correct entered server backs
  pub record Chase (σ : State S V) (c k : ℕ) (r : Reading S V) : Type 0 where
    pub s : S
    pub v : V
    pub watched : among K.rules.above s r.watched ≡ true
    pub genuine : Genuine K σ.history s v
    pub from : (b : ℕ) → b < K.rules.n → σ.faulty b ≡ false → r.entered b ≡ true → Le K ((σ.servers b).listener c).start s
    pub backs : (b : ℕ) → b < K.rules.n → σ.faulty b ≡ false → r.entered b ≡ true → Backs σ c k r b s v

  -- a read that is not done
  pub record LiveRead (σ : State S V) (c k : ℕ) (r : Reading S V) : Type 0 where
    pub undecided : decide K.rules r r.watched ≡ None
    pub started : (b : ℕ) → b < K.rules.n → σ.faulty b ≡ false → Started σ c k r b
    pub coming : (b : ℕ) → b < K.rules.n → σ.faulty b ≡ false → ((σ.servers b).listener c).number ≡ k → ((σ.servers b).listener c).listening ≡ true →
        (c' k' : ℕ) (s : S) (v : V) → In (chose c' k' s v) σ.history → Le K ((σ.servers b).listener c).start s → Coming σ c k r b c' k' s v
    pub chase : ((b : ℕ) → b < K.rules.n → σ.faulty b ≡ false → r.entered b ≡ false) ⊎ Chase σ c k r

  -- a write that asks: each correct server told, or its message is under way
  pub record LiveAsk (σ : State S V) (c k : ℕ) (told : ℕ → Bool) : Type 0 where
    pub short : K.rules.quorum told ≡ false
    pub asked : (b : ℕ) → b < K.rules.n → σ.faulty b ≡ false → (told b ≡ true) ⊎ (In (query c b k) σ.queue ⊎ ((t : S) × In (ts c b k t) σ.queue))

  -- a write that stores: each correct server acknowledged, or its message is under way
  pub record LiveStore (σ : State S V) (c k : ℕ) (s : S) (v : V) (acks : ℕ → Bool) : Type 0 where
    pub short : K.rules.quorum acks ≡ false
    pub asked : (b : ℕ) → b < K.rules.n → σ.faulty b ≡ false → (acks b ≡ true) ⊎ (In (store c b k s v) σ.queue ⊎ In (ack c b k s) σ.queue)

  -- a client whose operation k goes on
  abbrev pub LivePhase : State S V → ℕ → ℕ → Phase S V → Type 0
  LivePhase σ c k idle = Unit {0}
  LivePhase σ c k (asking v told t) = LiveAsk σ c k told
  LivePhase σ c k (storing s v acks) = LiveStore σ c k s v acks
  LivePhase σ c k (reading r) = LiveRead σ c k r

  -- STOPs are older than an open read
  abbrev pub StopOk : (ℕ → Client S V) → Msg S V → Type 0
  StopOk cs (query c b k) = Unit {0}
  StopOk cs (ts c b k s) = Unit {0}
  StopOk cs (store c b k s v) = Unit {0}
  StopOk cs (ack c b k s) = Unit {0}
  StopOk cs (Msg.read c b k) = Unit {0}
  StopOk cs (value c b k s v) = Unit {0}
  StopOk cs (stop c b k) = (r : Reading S V) → (cs c).phase ≡ reading r → k < (cs c).number

  -- each chosen pair is held by every correct server or on its way there, no STOP is of an open read, and every open operation goes on
  pub record Live (σ : State S V) : Type 0 where
    pub placed : (b : ℕ) → b < K.rules.n → σ.faulty b ≡ false → (c k : ℕ) (s : S) (v : V) → In (chose c k s v) σ.history → In (store c b k s v) σ.queue ⊎ Le K s (σ.servers b).timestamp
    pub stops : All (StopOk σ.clients) σ.queue
    pub clients : (c : ℕ) → c < K.client_count → LivePhase σ c (σ.clients c).number (σ.clients c).phase

  -- a server took a READ and listens
  pub record ListenerRead (σ τ : State S V) (c b : ℕ) : Type 0 where
    pub k : ℕ
    pub last : ((τ.servers b).listener c).number ≡ k
    pub listening : ((τ.servers b).listener c).listening ≡ true
    pub start : ((τ.servers b).listener c).start ≡ (σ.servers b).timestamp
    pub new : ((σ.servers b).listener c).number < k
    pub number : k ≤ (σ.clients c).number
    pub sent : In (value c b k (σ.servers b).timestamp (σ.servers b).value) τ.queue
    pub held : (τ.servers b).timestamp ≡ (σ.servers b).timestamp

  -- a server took a STOP and no longer listens
  pub record ListenerStop (σ τ : State S V) (c b : ℕ) : Type 0 where
    pub k : ℕ
    pub last : ((τ.servers b).listener c).number ≡ k
    pub listening : ((τ.servers b).listener c).listening ≡ false
    pub new : ((σ.servers b).listener c).number ≤ k
    pub old : (r : Reading S V) → (σ.clients c).phase ≡ reading r → k < (σ.clients c).number

  -- how a listener may change in one step
  abbrev pub ListenerStep : State S V → State S V → ℕ → ℕ → Type 0
  ListenerStep σ τ c b = ((τ.servers b).listener c ≡ (σ.servers b).listener c) ⊎ (ListenerRead σ τ c b ⊎ ListenerStop σ τ c b)

  -- a server took a STORE: it acknowledged it, holds it or a higher one, and passed it to those it listens to
  pub record Stored (σ τ : State S V) (c b u k : ℕ) (s : S) (v : V) : Type 0 where
    pub acked : In (ack u b k s) τ.queue
    pub held : Le K s (τ.servers b).timestamp
    pub passed : c < K.client_count → ((σ.servers b).listener c).listening ≡ true → Le K ((σ.servers b).listener c).start s → In (value c b ((σ.servers b).listener c).number s v) τ.queue

  -- how the part of server b may change in one step, under a client whose own phase stays
  pub record Flow (σ τ : State S V) (c b : ℕ) : Type 0 where
    pub queries : (k : ℕ) → In (query c b k) σ.queue → In (query c b k) τ.queue ⊎ ((t : S) × In (ts c b k t) τ.queue)
    pub tss : (v : V) (told : ℕ → Bool) (t₀ : S) → (σ.clients c).phase ≡ asking v told t₀ → (t : S) → In (ts c b (σ.clients c).number t) σ.queue → In (ts c b (σ.clients c).number t) τ.queue ⊎ (told b ≡ true)
    pub stores : (u k : ℕ) (s : S) (v : V) → In (store u b k s v) σ.queue → In (store u b k s v) τ.queue ⊎ Stored σ τ c b u k s v
    pub acks : (s : S) (v : V) (acks : ℕ → Bool) → (σ.clients c).phase ≡ storing s v acks → In (ack c b (σ.clients c).number s) σ.queue → In (ack c b (σ.clients c).number s) τ.queue
    pub values : (r : Reading S V) → (σ.clients c).phase ≡ reading r → (s : S) (v : V) → In (value c b (σ.clients c).number s v) σ.queue → In (value c b (σ.clients c).number s v) τ.queue
    pub reads : (k : ℕ) → In (Msg.read c b k) σ.queue → In (Msg.read c b k) τ.queue ⊎ (((σ.servers b).listener c).number < k → ((τ.servers b).listener c).number ≡ k)
    pub listener : ListenerStep σ τ c b
    pub choices : (u k : ℕ) (s : S) (v : V) → In (chose u k s v) τ.history → In (chose u k s v) σ.history ⊎ In (store u b k s v) τ.queue

  module _ (L : Lawful K) where
    pub genuine_unique : (h : List (Event S V)) (cs : ℕ → Client S V) → Past K h cs → (s : S) (v v' : V) → Genuine K h s v → Genuine K h s v' → v ≡ v'
    genuine_unique h cs p s v v' (inl a) (inl b) = a.1 ∙ sym b.1
    genuine_unique h cs p s v v' (inl a) (inr (c, k, i)) = absurd (t≢f (p.choice c k s v' i).low (le_eq K L s K.lowest a.0))
    genuine_unique h cs p s v v' (inr (c, k, i)) (inl b) = absurd (t≢f (p.choice c k s v i).low (le_eq K L s K.lowest b.0))
    genuine_unique h cs p s v v' (inr (c, k, i)) (inr (c', k', i')) = (p.unique c k c' k' s v v' i i').2

    module _ {σ τ : State S V} (E : Later K σ τ) (c : ℕ) (F : (b : ℕ) → b < K.rules.n → τ.faulty b ≡ false → Flow σ τ c b) where
      pub placed_flow : ((b : ℕ) → b < K.rules.n → σ.faulty b ≡ false → (c k : ℕ) (s : S) (v : V) → In (chose c k s v) σ.history → In (store c b k s v) σ.queue ⊎ Le K s (σ.servers b).timestamp) →
          (b : ℕ) → b < K.rules.n → τ.faulty b ≡ false → (u k : ℕ) (s : S) (v : V) → In (chose u k s v) τ.history → In (store u b k s v) τ.queue ⊎ Le K s (τ.servers b).timestamp
      placed_flow p b n f u k s v i = elim ((F b n f).choices u k s v i) [
        | inl i ↦ elim (p b n (E.correct b f) u k s v i) [
          | inl j ↦ elim ((F b n f).stores u k s v j) [ inl z ↦ inl z | inr z ↦ inr z.held ]
          | inr j ↦ inr (le_trans K L _ _ _ j (E.held b))
        ]
        | inr j ↦ inl j
      ]

    module _ {σ τ : State S V} (I : Safe K σ) (E : Later K σ τ) (c : ℕ) (cm : c < K.client_count) (F : (b : ℕ) → b < K.rules.n → τ.faulty b ≡ false → Flow σ τ c b) where
      ask_flow : (v : V) (told : ℕ → Bool) (t : S) → (σ.clients c).phase ≡ asking v told t → LiveAsk σ c (σ.clients c).number told → LiveAsk τ c (σ.clients c).number told
      ask_flow v told t e g = record {
        short = g.short;
        asked = λ b n f. elim (g.asked b n (E.correct b f)) [
          | inl x ↦ inl x
          | inr (inl x) ↦ inr ((F b n f).queries _ x)
          | inr (inr (u, x)) ↦ elim ((F b n f).tss v told t e u x) [ inl y ↦ inr (inr (u, y)) | inr y ↦ inl y ]
        ];
      }

      store_flow : (s : S) (v : V) (acks : ℕ → Bool) → (σ.clients c).phase ≡ storing s v acks → LiveStore σ c (σ.clients c).number s v acks → LiveStore τ c (σ.clients c).number s v acks
      store_flow s v acks e g = record {
        short = g.short;
        asked = λ b n f. elim (g.asked b n (E.correct b f)) [
          | inl x ↦ inl x
          | inr (inl x) ↦ elim ((F b n f).stores _ _ _ _ x) [ inl y ↦ inr (inl y) | inr y ↦ inr (inr y.acked) ]
          | inr (inr x) ↦ inr (inr ((F b n f).acks s v acks e x))
        ];
      }

      module _ (r : Reading S V) (e : (σ.clients c).phase ≡ reading r) (g : LiveRead σ c (σ.clients c).number r) where
        -- a listening server goes on listening
        listener_same : (b : ℕ) → b < K.rules.n → τ.faulty b ≡ false → ((σ.servers b).listener c).number ≡ (σ.clients c).number → (τ.servers b).listener c ≡ (σ.servers b).listener c
        listener_same b n f h = elim (F b n f).listener [
          | inl x ↦ x
          | inr (inl x) ↦ absurd (let a = x.new in let d = x.number in omega arith)
          | inr (inr x) ↦ absurd (let a = x.new in let d = x.old r e in omega arith)
        ]

        started_flow : (b : ℕ) → b < K.rules.n → τ.faulty b ≡ false → Started τ c (σ.clients c).number r b
        started_flow b n f = elim (g.started b n (E.correct b f)) [
          | inl x ↦ elim (F b n f).listener [
            | inl y ↦ elim ((F b n f).reads _ x.1) [
              | inl z ↦ inl (subst (λ (e : Listener S). e.number < (σ.clients c).number) (sym y) x.0, z, x.2)
              | inr z ↦ absurd (let a = z x.0 in let d = ap (λ (e : Listener S). e.number) y in let d' = x.0 in omega arith)
            ]
            | inr (inl y) ↦ at_read x y (decide_eq y.k (σ.clients c).number)
            | inr (inr y) ↦ elim ((F b n f).reads _ x.1) [
              | inl z ↦ inl (let a = y.old r e in let d = y.last in omega arith, z, x.2)
              | inr z ↦ absurd (let a = z x.0 in let d = y.last in let d' = y.old r e in omega arith)
            ]
          ]
          | inr x ↦ (let y = listener_same b n f x.0 in inr (ap (λ (e : Listener S). e.number) y ∙ x.0, ap (λ (e : Listener S). e.listening) y ∙ x.1, elim x.2 [ inl z ↦ inl z | inr (s, v, z) ↦ inr (s, v, (F b n f).values r e s v z) ]))
        ]
          where
            decide_eq : (i j : ℕ) → (i ≡ j) ⊎ (i ≡ j → ⊥)
            decide_eq i j = elim (either (eqb i j)) [ inl e ↦ inl (eq_of i j e) | inr e ↦ inr (λ x. t≢f (subst (λ j. eqb i j ≡ true) x (eqb_same i)) e) ]

            at_read : (((σ.servers b).listener c).number < (σ.clients c).number) × In (Msg.read c b (σ.clients c).number) σ.queue × (r.entered b ≡ false) → (y : ListenerRead σ τ c b) → (y.k ≡ (σ.clients c).number) ⊎ (y.k ≡ (σ.clients c).number → ⊥) → Started τ c (σ.clients c).number r b
            at_read x y (inl h) = inr (y.last ∙ h, y.listening, inr ((σ.servers b).timestamp, (σ.servers b).value, subst (λ k. In (value c b k (σ.servers b).timestamp (σ.servers b).value) τ.queue) h y.sent))
            at_read x y (inr h) = elim ((F b n f).reads _ x.1) [
              | inl z ↦ inl (let a = y.number in let d = y.last in let ne : y.k ≢ (σ.clients c).number = h in omega arith, z, x.2)
              | inr z ↦ absurd (h (sym y.last ∙ z x.0))
            ]

        coming_flow : Live σ → (b : ℕ) → b < K.rules.n → τ.faulty b ≡ false → ((τ.servers b).listener c).number ≡ (σ.clients c).number → ((τ.servers b).listener c).listening ≡ true →
            (c' k' : ℕ) (s : S) (v : V) → In (chose c' k' s v) τ.history → Le K ((τ.servers b).listener c).start s → Coming τ c (σ.clients c).number r b c' k' s v
        coming_flow A b n f h o c' k' s v i l = elim ((F b n f).choices c' k' s v i) [
          | inr j ↦ inl j
          | inl i ↦ elim (F b n f).listener [
            | inl y ↦
                (let h' = sym (ap (λ (e : Listener S). e.number) y) ∙ h in
                let o' = sym (ap (λ (e : Listener S). e.listening) y) ∙ o in
                let l' = subst (λ (e : Listener S). Le K e.start s) y l in
                elim (g.coming b n (E.correct b f) h' o' c' k' s v i l') [
                  | inl z ↦ elim ((F b n f).stores _ _ _ _ z) [
                    | inl z ↦ inl z
                    | inr z ↦ inr (inl (subst (λ k. In (value c b k s v) τ.queue) h' (z.passed cm o' l')))
                  ]
                  | inr (inl z) ↦ inr (inl ((F b n f).values r e s v z))
                  | inr (inr z) ↦ inr (inr z)
                ])
            | inr (inl y) ↦ at_read i y
            | inr (inr y) ↦ absurd (t≢f o y.listening)
          ]
        ]
          where
            at_read : In (chose c' k' s v) σ.history → ListenerRead σ τ c b → Coming τ c (σ.clients c).number r b c' k' s v
            at_read i y = elim (placed_flow E c F A.placed b n f c' k' s v (E.history _ i)) [
              | inl z ↦ inl z
              | inr z ↦
                  (let a : s ≡ (σ.servers b).timestamp = L.timestamps.total _ _ (subst (Le K s) y.held z) (subst (λ t. Le K t s) y.start l) in
                  let d : v ≡ (σ.servers b).value = genuine_unique σ.history σ.clients I.past s v (σ.servers b).value (inr (c', k', i)) (subst (λ t. Genuine K σ.history t (σ.servers b).value) (sym a) (I.servers b (E.correct b f)).genuine) in
                  let d' : value c b (σ.clients c).number s v ≡ value c b y.k (σ.servers b).timestamp (σ.servers b).value = cc (a, d, y.last, h) in
                  inr (inl (subst (λ (x : Msg S V). In x τ.queue) (sym d') y.sent)))
            ]

        chase_flow : ((b : ℕ) → b < K.rules.n → τ.faulty b ≡ false → r.entered b ≡ false) ⊎ Chase τ c (σ.clients c).number r
        chase_flow = elim g.chase [
          | inl x ↦ inl (λ b n f. x b n (E.correct b f))
          | inr x ↦ inr (record {
            s = x.s;
            v = x.v;
            watched = x.watched;
            genuine = genuine_later K L E x.genuine;
            from = λ b n f i. subst (λ (e : Listener S). Le K e.start x.s) (sym (listener_same b n f (listens b n f i).0)) (x.from b n (E.correct b f) i);
            backs = λ b n f i. elim (x.backs b n (E.correct b f) i) [
              | inl y ↦ inl y
              | inr (inl (c', k', y)) ↦ elim ((F b n f).stores _ _ _ _ y) [
                | inl z ↦ inr (inl (c', k', z))
                | inr z ↦ inr (inr (subst (λ k. In (value c b k x.s x.v) τ.queue) (listens b n f i).0 (z.passed cm (listens b n f i).1 (x.from b n (E.correct b f) i))))
              ]
              | inr (inr y) ↦ inr (inr ((F b n f).values r e _ _ y))
            ];
          })
        ]
          where
            listens : (b : ℕ) → b < K.rules.n → τ.faulty b ≡ false → r.entered b ≡ true → (((σ.servers b).listener c).number ≡ (σ.clients c).number) × (((σ.servers b).listener c).listening ≡ true)
            listens b n f i = elim (g.started b n (E.correct b f)) [ inl x ↦ absurd (t≢f i x.2) | inr x ↦ (x.0, x.1) ]

        read_flow : Live σ → LiveRead τ c (σ.clients c).number r
        read_flow A = record { undecided = g.undecided; started = started_flow; coming = coming_flow A; chase = chase_flow }

      pub phase_flow : Live σ → (ph : Phase S V) → (σ.clients c).phase ≡ ph → LivePhase σ c (σ.clients c).number ph → LivePhase τ c (σ.clients c).number ph
      phase_flow A idle e g = tt
      phase_flow A (asking v told t) e g = ask_flow v told t e g
      phase_flow A (storing s v acks) e g = store_flow s v acks e g
      phase_flow A (reading r) e g = read_flow r e g A

    pub live_from : {σ τ : State S V} → Live σ → Safe K σ → Later K σ τ →
        ((b : ℕ) → b < K.rules.n → τ.faulty b ≡ false → (c k : ℕ) (s : S) (v : V) → In (chose c k s v) τ.history → In (store c b k s v) τ.queue ⊎ Le K s (τ.servers b).timestamp) →
        All (StopOk τ.clients) τ.queue →
        ((c : ℕ) → c < K.client_count → ((τ.clients c ≡ σ.clients c) × ((b : ℕ) → b < K.rules.n → τ.faulty b ≡ false → Flow σ τ c b)) ⊎ LivePhase τ c (τ.clients c).number (τ.clients c).phase) → Live τ
    live_from {σ} {τ} A I E p st cs = record {
      placed = p;
      stops = st;
      clients = λ c cm. elim (cs c cm) [
        | inl e ↦ subst (λ (x : Client S V). LivePhase τ c x.number x.phase) (sym e.0) (phase_flow I E c cm e.1 A (σ.clients c).phase refl (A.clients c cm))
        | inr g ↦ g
      ];
    }

    pub live_flow : {σ τ : State S V} → Live σ → Safe K σ → Later K σ τ → ((c b : ℕ) → b < K.rules.n → τ.faulty b ≡ false → Flow σ τ c b) → All (StopOk τ.clients) τ.queue →
        ((c : ℕ) → c < K.client_count → τ.clients c ≡ σ.clients c) → Live τ
    live_flow {σ} {τ} A I E F st cs = live_from A I E (placed_flow E 0 (F 0) A.placed) st (λ c cm. inl (cs c cm, F c))

    -- a server of which nothing changes and no message goes
    pub flow_keep : {σ τ : State S V} (c b : ℕ) → ((l : Msg S V) → server_of l ≡ b → In l σ.queue → In l τ.queue) → τ.servers b ≡ σ.servers b →
        ((u k : ℕ) (s : S) (v : V) → In (chose u k s v) τ.history → In (chose u k s v) σ.history ⊎ In (store u b k s v) τ.queue) → Flow σ τ c b
    flow_keep c b keep e ch = record {
      queries = λ k i. inl (keep _ refl i);
      tss = λ v told t₀ e t i. inl (keep _ refl i);
      stores = λ u k s v i. inl (keep _ refl i);
      acks = λ s v acks e i. keep _ refl i;
      values = λ r e s v i. keep _ refl i;
      reads = λ k i. inl (keep _ refl i);
      listener = inl (ap (λ (x : ServerState S V). x.listener c) e);
      choices = ch;
    }
