-- A client takes a message: every other open operation goes on.
use Rattle.std.proofs.Common.{◌≡◌, ℕ, ◌<◌, ◌≤◌, Bool, true, false, cond, eqb, ◌⊎◌, List, [], ◌∷◌, ◌++◌, Some, None, Option, sym, refl, ap, ◌∙◌, subst, inl, inr, le_refl}
use Rattle.timestamps.specs.Laws.{higher}
use Rattle.reading.specs.Readings.{Reading, updated, level}
use Rattle.server.specs.Serving.{ServerState}
use Rattle.protocol.specs.Settings.{Setting, Lawful}
use Rattle.protocol.specs.Clients.{Phase, idle, asking, storing, reading, Client, to_all}
use Rattle.protocol.specs.Runs.{In, here, there}
use Rattle.machine.proofs.Machine.{Msg, query, ts, store, ack, value, stop, Event, chose, finished, spent, State, client_of, set_client, dropped, chosen, on_ts, on_ack}
use Rattle.machine.proofs.Base.{zero≢one, t≢f, by_cond, eq_of, eqb_same, updated_elim, updated_at, All, all-++, all_to, in_cons, in_left, in_right, in_to, Le, level_refl}
use Rattle.machine.proofs.Safe.{Good, Safe, Later}
use Rattle.machine.proofs.Past.{old_chose, old_prior}
use Rattle.machine.proofs.SafeClient.{drop_later, client_later}
use Rattle.machine.proofs.Live.{LivePhase, StopOk, Live, Flow, live_from, live_flow}

pub all_in : {A : Type 0} (P : A → Type 0) (xs : List A) (a : A) → All P xs → In a xs → P a
all_in P (x ∷ xs) a h here = h.0
all_in P (x ∷ xs) a h (there i) = all_in P xs a h.1 i
all_in P [] a h i = elim i [ ]

pub all_both : {A : Type 0} (P Q R : A → Type 0) → ((a : A) → P a → Q a → R a) → (xs : List A) → All P xs → All Q xs → All R xs
all_both P Q R f [] p q = tt
all_both P Q R f (x ∷ xs) p q = (f x p.0 q.0, all_both P Q R f xs p.1 q.1)

pub updated_true : (told : ℕ → Bool) (b d : ℕ) → told d ≡ true → updated told b true d ≡ true
updated_true told b d e = updated_elim (λ t. t ≡ true) told b true d (λ _. refl) e

module _ {S V : Type 0} where
  -- the message is to a client
  abbrev pub ToClient : Msg S V → Type 0
  ToClient (query c b k) = ⊥
  ToClient (ts c b k s) = Unit {0}
  ToClient (store c b k s v) = ⊥
  ToClient (ack c b k s) = Unit {0}
  ToClient (Msg.read c b k) = ⊥
  ToClient (value c b k s v) = Unit {0}
  ToClient (stop c b k) = ⊥

module _ {S V : Type 0} (K : Setting S V) (L : Lawful K) where
  pub none_short : K.rules.quorum (λ b. false) ≡ false
  none_short = go (K.rules.quorum (λ b. false)) refl
    where
      go : (t : Bool) → K.rules.quorum (λ b. false) ≡ t → K.rules.quorum (λ b. false) ≡ false
      go true e = let d = L.quorums.quorums_meet (λ b. false) (λ b. false) (λ b. false) e e L.quorums.none_fail_prone in absurd (t≢f d.2 refl)
      go false e = e

  -- messages to clients go, of which c waits for none
  pub flow_client : {σ τ : State S V} (Lost : Msg S V → Type 0) → ((l : Msg S V) → Lost l → ToClient l) → ((l : Msg S V) → In l σ.queue → Lost l ⊎ In l τ.queue) →
      (c b : ℕ) → τ.servers b ≡ σ.servers b →
      ((u k : ℕ) (s : S) (v : V) → In (chose u k s v) τ.history → In (chose u k s v) σ.history ⊎ In (store u b k s v) τ.queue) →
      ((v : V) (told : ℕ → Bool) (t₀ : S) → (σ.clients c).phase ≡ asking v told t₀ → (t : S) → Lost (ts c b (σ.clients c).number t) → told b ≡ true) →
      ((s : S) (v : V) (acks : ℕ → Bool) → (σ.clients c).phase ≡ storing s v acks → Lost (ack c b (σ.clients c).number s) → ⊥) →
      ((r : Reading S V) → (σ.clients c).phase ≡ reading r → (s : S) (v : V) → Lost (value c b (σ.clients c).number s v) → ⊥) → Flow K σ τ c b
  flow_client {σ} {τ} Lost tc keep c b e ch ht ha hv = record {
    queries = λ k i. inl (kept _ i (λ l. tc _ l));
    tss = λ v told t₀ e t i. elim (keep _ i) [ inl l ↦ inr (ht v told t₀ e t l) | inr j ↦ inl j ];
    stores = λ u k s v i. inl (kept _ i (λ l. tc _ l));
    acks = λ s v acks e i. kept _ i (ha s v acks e);
    values = λ r e s v i. kept _ i (hv r e s v);
    reads = λ k i. inl (kept _ i (λ l. tc _ l));
    listener = inl (ap (λ (x : ServerState S V). x.listener c) e);
    choices = ch;
  }
    where
      kept : (l : Msg S V) → In l σ.queue → (Lost l → ⊥) → In l τ.queue
      kept l i ne = elim (keep l i) [ inl x ↦ absurd (ne x) | inr j ↦ j ]

  module _ (σ : State S V) (A : Live K σ) (I : Safe K σ) (rest : List (Msg S V)) (r : All (Good K σ) rest) (st : All (StopOk K σ.clients) rest) where
    pub live_drop : (l₀ : Msg S V) → ToClient l₀ → ((l : Msg S V) → In l σ.queue → (l ≡ l₀) ⊎ In l rest) →
        ((c b : ℕ) (v : V) (told : ℕ → Bool) (t₀ : S) → (σ.clients c).phase ≡ asking v told t₀ → (t : S) → ts c b (σ.clients c).number t ≡ l₀ → told b ≡ true) →
        ((c b : ℕ) (s : S) (v : V) (acks : ℕ → Bool) → (σ.clients c).phase ≡ storing s v acks → ack c b (σ.clients c).number s ≡ l₀ → ⊥) →
        ((c b : ℕ) (r : Reading S V) → (σ.clients c).phase ≡ reading r → (s : S) (v : V) → value c b (σ.clients c).number s v ≡ l₀ → ⊥) → Live K (dropped σ rest)
    live_drop l₀ tc keep ht ha hv = live_flow K L A I (drop_later K L σ I rest r)
        (λ c b n f. flow_client (λ l. l ≡ l₀) (λ l e. subst ToClient (sym e) tc) keep c b refl (λ u k s v i. inl i) (ht c b) (ha c b) (hv c b)) st (λ c cm. refl)

    -- client c₀ changes; what goes is to it
    pub live_client : (Lost : Msg S V → Type 0) (c₀ : ℕ) (x : Client S V) (ms : List (Msg S V)) (es : List (Event S V)) →
        ((l : Msg S V) → Lost l → ToClient l) → ((l : Msg S V) → Lost l → client_of l ≡ c₀) → ((l : Msg S V) → In l σ.queue → Lost l ⊎ In l rest) →
        Later K σ (set_client σ c₀ rest x ms es) →
        ((b : ℕ) → b < K.rules.n → (u k : ℕ) (s : S) (v : V) → In (chose u k s v) (es ++ σ.history) → In (chose u k s v) σ.history ⊎ In (store u b k s v) ms) →
        ((k : ℕ) → k ≤ (σ.clients c₀).number → ((y : Reading S V) → (σ.clients c₀).phase ≡ reading y → k < (σ.clients c₀).number) → (y : Reading S V) → x.phase ≡ reading y → k < x.number) →
        All (StopOk K (updated σ.clients c₀ x)) ms →
        LivePhase K (set_client σ c₀ rest x ms es) c₀ x.number x.phase → Live K (set_client σ c₀ rest x ms es)
    live_client Lost c₀ x ms es tc toc keep E ch so sl g = live_from K L A I E placed
        (all-++ (StopOk K (updated σ.clients c₀ x)) rest ms (all_both (Good K σ) (StopOk K σ.clients) (StopOk K (updated σ.clients c₀ x)) stops rest r st) sl)
        (λ c cm. others c)
      where
        τ : State S V
        τ = set_client σ c₀ rest x ms es

        keep' : (l : Msg S V) → In l σ.queue → Lost l ⊎ In l (rest ++ ms)
        keep' l i = elim (keep l i) [ inl e ↦ inl e | inr j ↦ inr (in_left rest ms j) ]

        placed : (b : ℕ) → b < K.rules.n → σ.faulty b ≡ false → (c k : ℕ) (s : S) (v : V) → In (chose c k s v) (es ++ σ.history) → In (store c b k s v) (rest ++ ms) ⊎ Le K s (σ.servers b).timestamp
        placed b n f c k s v i = elim (ch b n c k s v i) [
          | inl i ↦ elim (A.placed b n f c k s v i) [
            | inl j ↦ elim (keep' _ j) [ inl e ↦ absurd (tc _ e) | inr j ↦ inl j ]
            | inr j ↦ inr j
          ]
          | inr j ↦ inl (in_right rest ms j)
        ]

        stops : (l : Msg S V) → Good K σ l → StopOk K σ.clients l → StopOk K (updated σ.clients c₀ x) l
        stops (query c b k) g s = tt
        stops (ts c b k t) g s = tt
        stops (store c b k t v) g s = tt
        stops (ack c b k t) g s = tt
        stops (Msg.read c b k) g s = tt
        stops (value c b k t v) g s = tt
        stops (stop c b k) g s = updated_elim (λ (z : Client S V). (y : Reading S V) → z.phase ≡ reading y → k < z.number) σ.clients c₀ x c
            (λ e. so k (subst (λ c. k ≤ (σ.clients c).number) (sym e) g) (subst (λ c. (y : Reading S V) → (σ.clients c).phase ≡ reading y → k < (σ.clients c).number) (sym e) s)) s

        others : (c : ℕ) → ((updated σ.clients c₀ x c ≡ σ.clients c) × ((b : ℕ) → b < K.rules.n → σ.faulty b ≡ false → Flow K σ τ c b)) ⊎ LivePhase K τ c (updated σ.clients c₀ x c).number (updated σ.clients c₀ x c).phase
        others c = go (eqb c₀ c) refl
          where
            go : (t : Bool) → eqb c₀ c ≡ t → ((updated σ.clients c₀ x c ≡ σ.clients c) × ((b : ℕ) → b < K.rules.n → σ.faulty b ≡ false → Flow K σ τ c b)) ⊎ LivePhase K τ c (updated σ.clients c₀ x c).number (updated σ.clients c₀ x c).phase
            go true e =
                let e' = eq_of c₀ c e in
                inr (subst (λ c. LivePhase K τ c (updated σ.clients c₀ x c).number (updated σ.clients c₀ x c).phase) e'
                (subst (λ (z : Client S V). LivePhase K τ c₀ z.number z.phase) (sym (updated_at σ.clients c₀ x)) g))
            go false e = inl (
              ap (λ t. cond t x (σ.clients c)) e,
              λ b n f.
                  flow_client Lost tc keep' c b refl
                  (λ u k s v i. elim (ch b n u k s v i) [ inl i ↦ inl i | inr j ↦ inr (in_right rest ms j) ])
                  (λ v told t₀ _ t l. absurd (other (toc _ l))) (λ s v acks _ l. other (toc _ l)) (λ y _ s v l. other (toc _ l)),
            )
              where
                other : c ≡ c₀ → ⊥
                other h = t≢f (subst (λ c. eqb c₀ c ≡ true) (sym h) (eqb_same c₀)) e

    -- TS
    module _ (c₀ b₀ k₀ : ℕ) (s₀ : S) (keep : (l : Msg S V) → In l σ.queue → (l ≡ ts c₀ b₀ k₀ s₀) ⊎ In l rest) where
      -- a TS that c₀ does not wait for
      drop_ts : ((v : V) (told : ℕ → Bool) (t₀ : S) → (σ.clients c₀).phase ≡ asking v told t₀ → k₀ ≡ (σ.clients c₀).number → told b₀ ≡ true) → Live K (dropped σ rest)
      drop_ts h = live_drop (ts c₀ b₀ k₀ s₀) tt keep
          (λ c b v told t₀ e t l.
          let a : c ≡ c₀ = cc in
          let d : b ≡ b₀ = cc in
          let d' : (σ.clients c).number ≡ k₀ = cc in
          subst (λ b. told b ≡ true) (sym d) (h v told t₀ (subst (λ c. (σ.clients c).phase ≡ asking v told t₀) a e) (sym d' ∙ ap (λ c. (σ.clients c).number) a)))
          (λ c b s v acks e l. zero≢one cc)
          (λ c b y e s v l. zero≢one cc)

      pub live_ts_number : (k₀ ≡ (σ.clients c₀).number → ⊥) → Live K (dropped σ rest)
      live_ts_number ne = drop_ts (λ v told t₀ e h. absurd (ne h))

      pub live_ts : k₀ ≡ (σ.clients c₀).number → c₀ < K.client_count → (ph : Phase S V) → (σ.clients c₀).phase ≡ ph → LivePhase K σ c₀ (σ.clients c₀).number ph → Live K (on_ts K σ c₀ b₀ s₀ rest ph)
      live_ts h cm idle e g = drop_ts (λ v' told' t' e' h'. absurd (zero≢one cc))
      live_ts h cm (storing t v acks) e g = drop_ts (λ v' told' t' e' h'. absurd (zero≢one cc))
      live_ts h cm (reading y) e g = drop_ts (λ v' told' t' e' h'. absurd (zero≢one cc))
      live_ts h cm (asking v told t) e g =
          by_cond (Live K) (told b₀) (dropped σ rest) _
          (λ f. drop_ts (λ v' told' t' e' h. let a : told ≡ told' = cc in subst (λ (z : ℕ → Bool). z b₀ ≡ true) a f))
          (λ f. by_cond (Live K) (K.rules.quorum (updated told b₀ true)) _ _
          (λ enough. choose (K.successor c₀ (higher K.rules.above t s₀) (σ.clients c₀).last))
          (λ short. live_client Lost c₀ _ [] [] tc toc keep (client_later K L σ I rest r c₀ _ [] [] (le_refl _) (λ u k s q h p. p)) (λ b n u k s v i. inl i)
          (λ k n so y e. absurd (zero≢one cc)) tt (record {
            short = short;
            asked = λ b n f. elim (g.asked b n f) [
              | inl x ↦ inl (updated_true told b₀ b x)
              | inr (inl x) ↦ elim (keep _ x) [ inl e ↦ absurd (tc _ e) | inr j ↦ inr (inl (in_left rest [] j)) ]
              | inr (inr (u, x)) ↦ elim (keep _ x) [
                | inl e ↦ inl (let a : b₀ ≡ b = cc in subst (λ b. updated told b₀ true b ≡ true) a (updated_at told b₀ true))
                | inr j ↦ inr (inr (u, in_left rest [] j))
              ]
            ];
          })))
        where
          Lost : Msg S V → Type 0
          Lost l = l ≡ ts c₀ b₀ k₀ s₀

          tc : (l : Msg S V) → Lost l → ToClient l
          tc l e = subst ToClient (sym e) tt

          toc : (l : Msg S V) → Lost l → client_of l ≡ c₀
          toc l e = ap client_of e

          choose : (o : Option S) → Live K (chosen K σ c₀ rest v o)
          choose None = live_client Lost c₀ x [] es tc toc keep (client_later K L σ I rest r c₀ x [] es (le_refl _) (λ u k s q h p. old_prior _ tt p)) (λ b n u k s v i. inl (old_chose _ tt i))
              (λ k n so y e. absurd (zero≢one cc)) tt tt
            where
              x : Client S V
              x = record { number = (σ.clients c₀).number; last = (σ.clients c₀).last; phase = idle }

              es : List (Event S V)
              es = spent c₀ (σ.clients c₀).number ∷ []
          choose (Some z) = live_client Lost c₀ x ms es tc toc keep (client_later K L σ I rest r c₀ x ms es (le_refl _) (λ u k s q h p. old_prior _ tt p))
              (λ b n u k s v' i. elim (in_cons i) [
                | inl e ↦ inr (let a : ◌≡◌ {A = Msg S V} (store c₀ b (σ.clients c₀).number z v) (store u b k s v') = cc in subst (λ (l : Msg S V). In l ms) a (in_to K.rules.n (λ b. store c₀ b (σ.clients c₀).number z v) b n))
                | inr i ↦ inl i
              ])
              (λ k n so y e. absurd (zero≢one cc))
              (all_to (StopOk K (updated σ.clients c₀ x)) K.rules.n (λ b. store c₀ b (σ.clients c₀).number z v) (λ i. tt))
              (record { short = none_short; asked = λ b n f. inr (inl (in_right rest ms (in_to K.rules.n (λ b. store c₀ b (σ.clients c₀).number z v) b n))) })
            where
              x : Client S V
              x = record { number = (σ.clients c₀).number; last = z; phase = storing z v (λ b. false) }

              ms : List (Msg S V)
              ms = to_all K.rules.n (λ b. store c₀ b (σ.clients c₀).number z v)

              es : List (Event S V)
              es = chose c₀ (σ.clients c₀).number z v ∷ []

    -- ACK
    module _ (c₀ b₀ k₀ : ℕ) (s₀ : S) (keep : (l : Msg S V) → In l σ.queue → (l ≡ ack c₀ b₀ k₀ s₀) ⊎ In l rest) where
      drop_ack : ((v : V) (acks : ℕ → Bool) → (σ.clients c₀).phase ≡ storing s₀ v acks → k₀ ≡ (σ.clients c₀).number → ⊥) → Live K (dropped σ rest)
      drop_ack h = live_drop (ack c₀ b₀ k₀ s₀) tt keep
          (λ c b v told t₀ e t l. absurd (zero≢one cc))
          (λ c b s v acks e l.
          let a : c ≡ c₀ = cc in
          let d : s ≡ s₀ = cc in
          let d' : (σ.clients c).number ≡ k₀ = cc in
          h v acks (subst (λ s. (σ.clients c₀).phase ≡ storing s v acks) d (subst (λ c. (σ.clients c).phase ≡ storing s v acks) a e)) (sym d' ∙ ap (λ c. (σ.clients c).number) a))
          (λ c b y e s v l. zero≢one cc)

      pub live_ack_number : (k₀ ≡ (σ.clients c₀).number → ⊥) → Live K (dropped σ rest)
      live_ack_number ne = drop_ack (λ v acks e h. ne h)

      pub live_ack : k₀ ≡ (σ.clients c₀).number → c₀ < K.client_count → (ph : Phase S V) → (σ.clients c₀).phase ≡ ph → LivePhase K σ c₀ (σ.clients c₀).number ph → Live K (on_ack K σ c₀ b₀ s₀ rest ph)
      live_ack h cm idle e g = drop_ack (λ v' acks' e' h'. zero≢one cc)
      live_ack h cm (asking t v acks) e g = drop_ack (λ v' acks' e' h'. zero≢one cc)
      live_ack h cm (reading y) e g = drop_ack (λ v' acks' e' h'. zero≢one cc)
      live_ack h cm (storing t v acks) e g =
          by_cond (Live K) (level K.rules.above s₀ t) _ (dropped σ rest)
          (λ f. by_cond (Live K) (K.rules.quorum (updated acks b₀ true)) _ _
          (λ enough. live_client Lost c₀ _ [] es tc toc keep (client_later K L σ I rest r c₀ _ [] es (le_refl _) (λ u k s q h p. old_prior _ tt p)) (λ b n u k s v i. inl (old_chose _ tt i))
          (λ k n so y e. absurd (zero≢one cc)) tt tt)
          (λ short. live_client Lost c₀ _ [] [] tc toc keep (client_later K L σ I rest r c₀ _ [] [] (le_refl _) (λ u k s q h p. p)) (λ b n u k s v i. inl i)
          (λ k n so y e. absurd (zero≢one cc)) tt (record {
            short = short;
            asked = λ b n f. elim (g.asked b n f) [
              | inl x ↦ inl (updated_true acks b₀ b x)
              | inr (inl x) ↦ elim (keep _ x) [ inl e ↦ absurd (tc _ e) | inr j ↦ inr (inl (in_left rest [] j)) ]
              | inr (inr x) ↦ elim (keep _ x) [
                | inl e ↦ inl (let a : b₀ ≡ b = cc in subst (λ b. updated acks b₀ true b ≡ true) a (updated_at acks b₀ true))
                | inr j ↦ inr (inr (in_left rest [] j))
              ]
            ];
          })))
          (λ f. drop_ack (λ v' acks' e' h. let a : s₀ ≡ t = cc in t≢f (subst (λ t. level K.rules.above s₀ t ≡ true) a (level_refl K L s₀)) f))
        where
          Lost : Msg S V → Type 0
          Lost l = l ≡ ack c₀ b₀ k₀ s₀

          tc : (l : Msg S V) → Lost l → ToClient l
          tc l e = subst ToClient (sym e) tt

          toc : (l : Msg S V) → Lost l → client_of l ≡ c₀
          toc l e = ap client_of e

          es : List (Event S V)
          es = finished c₀ (σ.clients c₀).number t None (updated acks b₀ true) ∷ []
