-- A server takes a message: every open operation goes on.
use Rattle.std.proofs.Common.{◌≡◌, ℕ, zero, suc, ◌<◌, ◌≤◌, Bool, true, false, cond, not, ◌&&◌, eqb, ltb, leb, ◌⊎◌, List, [], ◌∷◌, ◌++◌, sym, refl, ap, ◌∙◌, subst, inl, inr, arith}
use Rattle.reading.specs.Readings.{Reading, updated}
use Rattle.server.specs.declared.state.Listener.{Listener}
use Rattle.server.specs.Serving.{ServerState}
use Rattle.protocol.specs.Settings.{Setting, Lawful}
use Rattle.protocol.specs.Clients.{reading, Client}
use Rattle.protocol.specs.Runs.{In, here, there}
use Rattle.machine.proofs.Machine.{Msg, query, ts, store, ack, value, stop, State, server_of, set_server, server_read, server_stop, passed_to, passed_on, server_store}
use Rattle.machine.proofs.Base.{zero≢one, t≢f, by_cond, eq_of, eqb_same, lt_of, ge_of, le_of, updated_at, All, all-++, in_left, in_right, Le}
use Rattle.machine.proofs.Safe.{Good, Safe, Moves, stays, server_later}
use Rattle.machine.proofs.SafeServer.{stored_moves, stored_reach, after_read, after_read_moves, after_stop, after_stop_moves}
use Rattle.machine.proofs.Live.{StopOk, Live, ListenerRead, ListenerStop, ListenerStep, Stored, Flow, live_flow, flow_keep}

module _ {S V : Type 0} (K : Setting S V) (L : Lawful K) where
  -- what a server passes on has no STOP in it, and has a VALUE for each listener
  passed_on_stop : (cs : ℕ → Client S V) (b m : ℕ) (listener : ℕ → Listener S) (s : S) (v : V) → All (StopOk K cs) (passed_on K b m listener s v)
  passed_on_stop cs b zero listener s v = tt
  passed_on_stop cs b (suc u) listener s v = all-++ (StopOk K cs) (passed_on K b u listener s v) (passed_to K b u (listener u) s v) (passed_on_stop cs b u listener s v)
      (by_cond (All (StopOk K cs)) ((listener u).listening && not (K.rules.above (listener u).start s)) (value u b (listener u).number s v ∷ []) [] (λ e. (tt, tt)) (λ e. tt))

  passed_on_in : (b m : ℕ) (listener : ℕ → Listener S) (s : S) (v : V) (c : ℕ) → c < m → (listener c).listening ≡ true → Le K (listener c).start s → In (value c b (listener c).number s v) (passed_on K b m listener s v)
  passed_on_in b zero listener s v c h o l = absurd (omega arith)
  passed_on_in b (suc u) listener s v c h o l = go (eqb c u) refl (λ h. passed_on_in b u listener s v c h o l)
    where
      go : (t : Bool) → eqb c u ≡ t → (c < u → In (value c b (listener c).number s v) (passed_on K b u listener s v)) → In (value c b (listener c).number s v) (passed_on K b u listener s v ++ passed_to K b u (listener u) s v)
      go true e ih = in_right (passed_on K b u listener s v) (passed_to K b u (listener u) s v)
          (subst (λ x. In (value c b (listener c).number s v) (passed_to K b x (listener x) s v)) (eq_of c u e)
          (subst (λ t. In (value c b (listener c).number s v) (cond t (value c b (listener c).number s v ∷ []) [])) (sym test) here))
        where
          test : ((listener c).listening && not (K.rules.above (listener c).start s)) ≡ true
          test = cc
      go false e ih = in_left (passed_on K b u listener s v) (passed_to K b u (listener u) s v) (ih (grind arith))

  module _ (σ : State S V) (A : Live K σ) (I : Safe K σ) (rest : List (Msg S V)) (st : All (StopOk K σ.clients) rest) (b : ℕ)
      (l₀ : Msg S V) (nm : server_of l₀ ≡ b) (keep : (l : Msg S V) → In l σ.queue → (l ≡ l₀) ⊎ In l rest) where
    stay : (ms : List (Msg S V)) (l : Msg S V) → In l σ.queue → (l ≡ l₀ → ⊥) → In l (rest ++ ms)
    stay ms l i ne = elim (keep l i) [ inl e ↦ absurd (ne e) | inr j ↦ in_left rest ms j ]

    pub live_server : (x : ServerState S V) (ms : List (Msg S V)) → Moves K (σ.servers b) x → All (StopOk K σ.clients) ms →
        (σ.faulty b ≡ false → (c : ℕ) → Flow K σ (set_server σ b rest x ms) c b) → Live K (set_server σ b rest x ms)
    live_server x ms M sl at = live_flow K L A I (server_later K L σ b rest x ms M) flow (all-++ (StopOk K σ.clients) rest ms st sl) (λ c cm. refl)
      where
        flow : (c d : ℕ) → d < K.rules.n → σ.faulty d ≡ false → Flow K σ (set_server σ b rest x ms) c d
        flow c d n f = go (eqb b d) refl
          where
            go : (t : Bool) → eqb b d ≡ t → Flow K σ (set_server σ b rest x ms) c d
            go true e = let e' = eq_of b d e in subst (λ d. Flow K σ (set_server σ b rest x ms) c d) e' (at (subst (λ d. σ.faulty d ≡ false) (sym e') f) c)
            go false e = flow_keep K L c d
                (λ l nl i. stay ms l i (λ el. t≢f (subst (λ d. eqb b d ≡ true) (sym nm ∙ sym (ap server_of el) ∙ nl) (eqb_same b)) e))
                (ap (λ t. cond t x (σ.servers d)) e) (λ u k s v i. inl i)

    pub live_quiet : σ.faulty b ≡ true → Live K (set_server σ b rest (σ.servers b) [])
    live_quiet f = live_server (σ.servers b) [] (stays K L (σ.servers b)) tt (λ g. absurd (t≢f f g))

    -- nothing changes, and what goes was for nothing
    live_ignored : (ms : List (Msg S V)) → All (StopOk K σ.clients) ms →
        ((c k : ℕ) → query c b k ≡ l₀ → (t : S) × In (ts c b k t) ms) →
        ((c k : ℕ) (s : S) → ts c b k s ≡ l₀ → ⊥) →
        ((c k : ℕ) (s : S) (v : V) → store c b k s v ≡ l₀ → ⊥) →
        ((c k : ℕ) (s : S) → ack c b k s ≡ l₀ → ⊥) →
        ((c k : ℕ) (s : S) (v : V) → value c b k s v ≡ l₀ → ⊥) →
        ((c k : ℕ) → Msg.read c b k ≡ l₀ → k ≤ ((σ.servers b).listener c).number) →
        Live K (set_server σ b rest (σ.servers b) ms)
    live_ignored ms sl hq ht hs ha hv hr = live_server (σ.servers b) ms (stays K L (σ.servers b)) sl (λ f c. record {
      queries = λ k i. elim (keep _ i) [ inl e ↦ (let a = hq c k e in inr (a.0, in_right rest ms a.1)) | inr i ↦ inl (in_left rest ms i) ];
      tss = λ v told t₀ e t i. inl (stay ms _ i (ht _ _ _));
      stores = λ u k s v i. inl (stay ms _ i (hs _ _ _ _));
      acks = λ s v acks e i. stay ms _ i (ha _ _ _);
      values = λ r e s v i. stay ms _ i (hv _ _ _ _);
      reads = λ k i. elim (keep _ i) [ inl e ↦ inr (λ lt. absurd (let a = hr c k e in omega arith)) | inr i ↦ inl (in_left rest ms i) ];
      listener = inl (ap (λ (x : ServerState S V). x.listener c) (updated_at σ.servers b (σ.servers b)));
      choices = λ u k s v i. inl i;
    })

  module _ (σ : State S V) (A : Live K σ) (I : Safe K σ) (rest : List (Msg S V)) (r : All (Good K σ) rest) (st : All (StopOk K σ.clients) rest) (c₀ b k₀ : ℕ) (f : σ.faulty b ≡ false) where
    pub live_query : ((l : Msg S V) → In l σ.queue → (l ≡ query c₀ b k₀) ⊎ In l rest) → Live K (set_server σ b rest (σ.servers b) (ts c₀ b k₀ (σ.servers b).timestamp ∷ []))
    live_query keep = live_ignored σ A I rest st b (query c₀ b k₀) refl keep (ts c₀ b k₀ (σ.servers b).timestamp ∷ []) (tt, tt)
        (λ c k e. ((σ.servers b).timestamp, subst (λ (l : Msg S V). In l (ts c₀ b k₀ (σ.servers b).timestamp ∷ [])) (same c k e) here))
        (λ c k s e. zero≢one cc) (λ c k s v e. zero≢one cc) (λ c k s e. zero≢one cc) (λ c k s v e. zero≢one cc) (λ c k e. absurd (zero≢one cc))
      where
        same : (c k : ℕ) → ◌≡◌ {A = Msg S V} (query c b k) (query c₀ b k₀) → ◌≡◌ {A = Msg S V} (ts c₀ b k₀ (σ.servers b).timestamp) (ts c b k (σ.servers b).timestamp)
        same c k e = cc

    pub live_store : (s₀ : S) (v₀ : V) → ((l : Msg S V) → In l σ.queue → (l ≡ store c₀ b k₀ s₀ v₀) ⊎ In l rest) →
        Live K (set_server σ b rest (server_store K c₀ b k₀ s₀ v₀ (σ.servers b)).0 (server_store K c₀ b k₀ s₀ v₀ (σ.servers b)).1)
    live_store s₀ v₀ keep = live_server σ A I rest st b (store c₀ b k₀ s₀ v₀) refl keep x ms (stored_moves K L σ I rest r c₀ b k₀ f s₀ v₀) (tt, passed_on_stop σ.clients b K.client_count (σ.servers b).listener s₀ v₀)
        (λ g c. record {
          queries = λ k i. inl (kept _ i (λ e. zero≢one cc));
          tss = λ v told t₀ e t i. inl (kept _ i (λ e. zero≢one cc));
          stores = λ u k s v i. elim (keep _ i) [ inl e ↦ inr (stored c u k s v e) | inr i ↦ inl (in_left rest ms i) ];
          acks = λ s v acks e i. kept _ i (λ e. zero≢one cc);
          values = λ r e s v i. kept _ i (λ e. zero≢one cc);
          reads = λ k i. inl (kept _ i (λ e. zero≢one cc));
          listener = inl (ap (λ (x : ServerState S V). x.listener c) (updated_at σ.servers b x));
          choices = λ u k s v i. inl i;
        })
      where
        x : ServerState S V
        x = (server_store K c₀ b k₀ s₀ v₀ (σ.servers b)).0

        ms : List (Msg S V)
        ms = (server_store K c₀ b k₀ s₀ v₀ (σ.servers b)).1

        kept : (l : Msg S V) → In l σ.queue → (l ≡ store c₀ b k₀ s₀ v₀ → ⊥) → In l (rest ++ ms)
        kept l i ne = elim (keep l i) [ inl e ↦ absurd (ne e) | inr j ↦ in_left rest ms j ]

        stored : (c u k : ℕ) (s : S) (v : V) → store u b k s v ≡ store c₀ b k₀ s₀ v₀ → Stored K σ (set_server σ b rest x ms) c b u k s v
        stored c u k s v e =
            let e1 : ◌≡◌ {A = Msg S V} (ack c₀ b k₀ s₀) (ack u b k s) = cc in
            let e2 : s₀ ≡ s = cc in
            let e3 : v₀ ≡ v = cc in
            record {
              acked = subst (λ (l : Msg S V). In l (rest ++ ms)) e1 (in_right rest ms here);
              held = subst (λ s. Le K s (updated σ.servers b x b).timestamp) e2 (subst (λ (y : ServerState S V). Le K s₀ y.timestamp) (sym (updated_at σ.servers b x)) (stored_reach K L σ I rest r c₀ b k₀ f s₀ v₀));
              passed = λ cm o l. in_right rest ms (there (subst (λ s. In (value c b ((σ.servers b).listener c).number s v) (passed_on K b K.client_count (σ.servers b).listener s₀ v₀)) e2
                  (subst (λ v. In (value c b ((σ.servers b).listener c).number s₀ v) (passed_on K b K.client_count (σ.servers b).listener s₀ v₀)) e3
                  (passed_on_in b K.client_count (σ.servers b).listener s₀ v₀ c cm o (subst (Le K ((σ.servers b).listener c).start) (sym e2) l)))));
            }

    pub live_read : k₀ ≤ (σ.clients c₀).number → ((l : Msg S V) → In l σ.queue → (l ≡ Msg.read c₀ b k₀) ⊎ In l rest) →
        Live K (set_server σ b rest (server_read c₀ b k₀ (σ.servers b)).0 (server_read c₀ b k₀ (σ.servers b)).1)
    live_read h keep = by_cond (λ (p : ServerState S V × List (Msg S V)). Live K (set_server σ b rest p.0 p.1)) (ltb ((σ.servers b).listener c₀).number k₀) (x, ms) (σ.servers b, [])
        (λ e. live_server σ A I rest st b (Msg.read c₀ b k₀) refl keep x ms (after_read_moves K L σ I rest r c₀ b k₀ f (lt_of _ _ e)) (tt, tt) (λ g c. record {
          queries = λ k i. inl (kept _ i (λ e. zero≢one cc));
          tss = λ v told t₀ e t i. inl (kept _ i (λ e. zero≢one cc));
          stores = λ u k s v i. inl (kept _ i (λ e. zero≢one cc));
          acks = λ s v acks e i. kept _ i (λ e. zero≢one cc);
          values = λ r e s v i. kept _ i (λ e. zero≢one cc);
          reads = λ k i. elim (keep _ i) [ inl e ↦ inr (λ lt. listened_at c k e) | inr i ↦ inl (in_left rest ms i) ];
          listener = listener_at c (lt_of _ _ e);
          choices = λ u k s v i. inl i;
        }))
        (λ e. live_ignored σ A I rest st b (Msg.read c₀ b k₀) refl keep [] tt
        (λ c k e. absurd (zero≢one cc)) (λ c k s e. zero≢one cc) (λ c k s v e. zero≢one cc) (λ c k s e. zero≢one cc) (λ c k s v e. zero≢one cc)
        (λ c k g. old c k (ge_of _ _ e) g))
      where
        x : ServerState S V
        x = after_read K L σ I rest r c₀ b k₀ f

        ms : List (Msg S V)
        ms = value c₀ b k₀ (σ.servers b).timestamp (σ.servers b).value ∷ []

        kept : (l : Msg S V) → In l σ.queue → (l ≡ Msg.read c₀ b k₀ → ⊥) → In l (rest ++ ms)
        kept l i ne = elim (keep l i) [ inl e ↦ absurd (ne e) | inr j ↦ in_left rest ms j ]

        old : (c k : ℕ) → k₀ ≤ ((σ.servers b).listener c₀).number → ◌≡◌ {A = Msg S V} (Msg.read c b k) (Msg.read c₀ b k₀) → k ≤ ((σ.servers b).listener c).number
        old c k h e =
            let e1 : k ≡ k₀ = cc in
            let e2 : c₀ ≡ c = cc in
            subst (λ c. k ≤ ((σ.servers b).listener c).number) e2 (omega arith)

        listeners_at : (updated σ.servers b x b).listener c₀ ≡ record { number = k₀; listening = true; start = (σ.servers b).timestamp }
        listeners_at = ap (λ (y : ServerState S V). y.listener c₀) (updated_at σ.servers b x) ∙ updated_at (σ.servers b).listener c₀ _

        listened_at : (c k : ℕ) → ◌≡◌ {A = Msg S V} (Msg.read c b k) (Msg.read c₀ b k₀) → ((updated σ.servers b x b).listener c).number ≡ k
        listened_at c k e =
            let e1 : k ≡ k₀ = cc in
            let e2 : c₀ ≡ c = cc in
            subst (λ c. ((updated σ.servers b x b).listener c).number ≡ k) e2 (ap (λ (y : Listener S). y.number) listeners_at ∙ sym e1)

        listener_at : (c : ℕ) → ((σ.servers b).listener c₀).number < k₀ → ListenerStep K σ (set_server σ b rest x ms) c b
        listener_at c lt = go (eqb c₀ c) refl
          where
            mine : ListenerRead K σ (set_server σ b rest x ms) c₀ b
            mine = record {
              k = k₀;
              last = ap (λ (y : Listener S). y.number) listeners_at;
              listening = ap (λ (y : Listener S). y.listening) listeners_at;
              start = ap (λ (y : Listener S). y.start) listeners_at;
              new = lt;
              number = h;
              sent = in_right rest ms here;
              held = ap (λ (y : ServerState S V). y.timestamp) (updated_at σ.servers b x);
            }

            go : (t : Bool) → eqb c₀ c ≡ t → ListenerStep K σ (set_server σ b rest x ms) c b
            go true e = inr (inl (subst (λ c. ListenerRead K σ (set_server σ b rest x ms) c b) (eq_of c₀ c e) mine))
            go false e = inl (ap (λ (y : ServerState S V). y.listener c) (updated_at σ.servers b x) ∙ ap (λ t. cond t (record { number = k₀; listening = true; start = (σ.servers b).timestamp }) ((σ.servers b).listener c)) e)

    pub live_stop : ((y : Reading S V) → (σ.clients c₀).phase ≡ reading y → k₀ < (σ.clients c₀).number) → ((l : Msg S V) → In l σ.queue → (l ≡ stop c₀ b k₀) ⊎ In l rest) →
        Live K (set_server σ b rest (server_stop c₀ b k₀ (σ.servers b)).0 [])
    live_stop h keep = by_cond (λ x. Live K (set_server σ b rest x [])) (leb ((σ.servers b).listener c₀).number k₀) x (σ.servers b)
        (λ e. live_server σ A I rest st b (stop c₀ b k₀) refl keep x [] (after_stop_moves K L σ I rest r c₀ b k₀ f (le_of _ _ e)) tt (λ g c. record {
          queries = λ k i. inl (kept _ i (λ e. zero≢one cc));
          tss = λ v told t₀ e t i. inl (kept _ i (λ e. zero≢one cc));
          stores = λ u k s v i. inl (kept _ i (λ e. zero≢one cc));
          acks = λ s v acks e i. kept _ i (λ e. zero≢one cc);
          values = λ r e s v i. kept _ i (λ e. zero≢one cc);
          reads = λ k i. inl (kept _ i (λ e. zero≢one cc));
          listener = listener_at c (le_of _ _ e);
          choices = λ u k s v i. inl i;
        }))
        (λ e. live_ignored σ A I rest st b (stop c₀ b k₀) refl keep [] tt
        (λ c k e. absurd (zero≢one cc)) (λ c k s e. zero≢one cc) (λ c k s v e. zero≢one cc) (λ c k s e. zero≢one cc) (λ c k s v e. zero≢one cc) (λ c k e. absurd (zero≢one cc)))
      where
        x : ServerState S V
        x = after_stop K L σ I rest r c₀ b k₀ f

        kept : (l : Msg S V) → In l σ.queue → (l ≡ stop c₀ b k₀ → ⊥) → In l (rest ++ [])
        kept l i ne = elim (keep l i) [ inl e ↦ absurd (ne e) | inr j ↦ in_left rest [] j ]

        listeners_at : (updated σ.servers b x b).listener c₀ ≡ record { number = k₀; listening = false; start = ((σ.servers b).listener c₀).start }
        listeners_at = ap (λ (y : ServerState S V). y.listener c₀) (updated_at σ.servers b x) ∙ updated_at (σ.servers b).listener c₀ _

        listener_at : (c : ℕ) → ((σ.servers b).listener c₀).number ≤ k₀ → ListenerStep K σ (set_server σ b rest x []) c b
        listener_at c lt = go (eqb c₀ c) refl
          where
            mine : ListenerStop K σ (set_server σ b rest x []) c₀ b
            mine = record {
              k = k₀;
              last = ap (λ (y : Listener S). y.number) listeners_at;
              listening = ap (λ (y : Listener S). y.listening) listeners_at;
              new = lt;
              old = h;
            }

            go : (t : Bool) → eqb c₀ c ≡ t → ListenerStep K σ (set_server σ b rest x []) c b
            go true e = inr (inr (subst (λ c. ListenerStop K σ (set_server σ b rest x []) c b) (eq_of c₀ c e) mine))
            go false e = inl (ap (λ (y : ServerState S V). y.listener c) (updated_at σ.servers b x) ∙ ap (λ t. cond t (record { number = k₀; listening = false; start = ((σ.servers b).listener c₀).start }) ((σ.servers b).listener c)) e)
