-- A server takes a message.
use Rattle.std.proofs.Common.{◌≡◌, ℕ, zero, suc, ◌<◌, ◌≤◌, Bool, true, false, cond, not, ◌&&◌, ltb, leb, List, [], ◌∷◌, sym, refl, ap, subst, inr, le_refl, arith}
use Rattle.reading.specs.Readings.{updated}
use Rattle.server.specs.declared.state.Listener.{Listener}
use Rattle.server.specs.Serving.{ServerState}
use Rattle.protocol.specs.Settings.{Setting, Lawful}
use Rattle.protocol.specs.Runs.{In}
use Rattle.machine.proofs.Machine.{Msg, ts, ack, value, chose, State, set_server, server_read, server_stop, passed_to, passed_on, server_store}
use Rattle.machine.proofs.Base.{t≢f, by_cond, lt_of, le_of, and_l, and_r, not-true, updated_elim, updated_at, All, all-++, Le, le_trans, lt_le, le_eq}
use Rattle.machine.proofs.Safe.{prior_finish, Genuine, SeenAt, Good, GoodListener, GoodServer, Safe, Moves, stays, safe_server}

module _ {S V : Type 0} (K : Setting S V) (L : Lawful K) (σ : State S V) (I : Safe K σ) (rest : List (Msg S V)) (r : All (Good K σ) rest) where
  pub safe_quiet : (b : ℕ) → Safe K (set_server σ b rest (σ.servers b) [])
  safe_quiet b = safe_server K L σ b rest (σ.servers b) [] (stays K L (σ.servers b)) I r (I.servers b) tt

  pub safe_query : (c b k : ℕ) → σ.faulty b ≡ false → k ≤ (σ.clients c).number → Safe K (set_server σ b rest (σ.servers b) (ts c b k (σ.servers b).timestamp ∷ []))
  safe_query c b k f h = safe_server K L σ b rest (σ.servers b) (ts c b k (σ.servers b).timestamp ∷ []) (stays K L (σ.servers b)) I r (I.servers b)
      ((λ g. record { number = h; floor = λ s₁ q p j. (I.servers b f).reach s₁ q (prior_finish p) j }), tt)

  module _ (c b k : ℕ) (f : σ.faulty b ≡ false) where
    pub stored_moves : (s : S) (v : V) → Moves K (σ.servers b) (server_store K c b k s v (σ.servers b)).0
    stored_moves s v = record {
      held = by_cond (λ t. Le K (σ.servers b).timestamp t) (K.rules.above s (σ.servers b).timestamp) s (σ.servers b).timestamp (λ e. lt_le K L _ _ e) (λ e. L.timestamps.irreflexive _);
      listener = λ c. le_refl _;
      start = λ c e. refl;
    }

    pub stored_reach : (s : S) (v : V) → Le K s (server_store K c b k s v (σ.servers b)).0.timestamp
    stored_reach s v = by_cond (λ t. Le K s t) (K.rules.above s (σ.servers b).timestamp) s (σ.servers b).timestamp (λ e. L.timestamps.irreflexive _) (λ e. e)

    stored_good : (s : S) (v : V) → In (chose c k s v) σ.history → GoodServer K σ.history σ.clients b (server_store K c b k s v (σ.servers b)).0
    stored_good s v i = record {
      genuine = either_genuine (K.rules.above s (σ.servers b).timestamp);
      reach = λ t q p j. le_trans K L _ _ _ ((I.servers b f).reach t q p j) (stored_moves s v).held;
      listener = λ u. let e = (I.servers b f).listener u in record { number = e.number; floor = e.floor; held = le_trans K L _ _ _ e.held (stored_moves s v).held };
    }
      where
        either_genuine : (t : Bool) → Genuine K σ.history (cond t s (σ.servers b).timestamp) (cond t v (σ.servers b).value)
        either_genuine true = inr (c, k, i)
        either_genuine false = (I.servers b f).genuine

    pub safe_store : (s : S) (v : V) → In (chose c k s v) σ.history → Safe K (set_server σ b rest (server_store K c b k s v (σ.servers b)).0 (server_store K c b k s v (σ.servers b)).1)
    safe_store s v i = safe_server K L σ b rest x ms (stored_moves s v) I r (λ g. stored_good s v i) (sent_ack, sent K.client_count)
      where
        x : ServerState S V
        x = (server_store K c b k s v (σ.servers b)).0

        ms : List (Msg S V)
        ms = (server_store K c b k s v (σ.servers b)).1

        τ : State S V
        τ = set_server σ b rest x ms

        sent_ack : Good K τ (ack c b k s)
        sent_ack g = subst (λ y. Le K s y.timestamp) (sym (updated_at σ.servers b x)) (stored_reach s v)

        one : (u : ℕ) → (t : Bool) → (((σ.servers b).listener u).listening && not (K.rules.above ((σ.servers b).listener u).start s)) ≡ t →
            All (Good K τ) (cond t (value u b ((σ.servers b).listener u).number s v ∷ []) [])
        one u true e =
            let h = (I.servers b f).listener u in
            let o = and_l _ _ e in
            let a = not-true _ (and_r ((σ.servers b).listener u).listening _ e) in
            let y : SeenAt K σ.history (σ.clients u).number x u b ((σ.servers b).listener u).number s v = record {
              number = h.number;
              genuine = inr (c, k, i);
              held = stored_reach s v;
              asked = le_refl _;
              from = λ e. a;
              floor = λ s₁ q p j. le_trans K L _ _ _ (h.floor o s₁ q p j) a;
            } in
            ((λ g. subst (λ z. SeenAt K σ.history (σ.clients u).number z u b ((σ.servers b).listener u).number s v) (sym (updated_at σ.servers b x)) y), tt)
        one u false e = tt

        sent : (m : ℕ) → All (Good K τ) (passed_on K b m (σ.servers b).listener s v)
        sent zero = tt
        sent (suc u) = all-++ (Good K τ) (passed_on K b u (σ.servers b).listener s v) (passed_to K b u ((σ.servers b).listener u) s v) (sent u) (one u _ refl)

    -- the server after a READ that it takes
    abbrev pub after_read : ServerState S V
    after_read = record { timestamp = (σ.servers b).timestamp; value = (σ.servers b).value; listener = updated (σ.servers b).listener c (record { number = k; listening = true; start = (σ.servers b).timestamp }) }

    pub after_read_moves : ((σ.servers b).listener c).number < k → Moves K (σ.servers b) after_read
    after_read_moves h = record {
      held = L.timestamps.irreflexive _;
      listener = λ u. updated_elim (λ (e : Listener S). ((σ.servers b).listener u).number ≤ e.number) (σ.servers b).listener c _ u
          (λ e. subst (λ i. ((σ.servers b).listener i).number ≤ k) e (omega arith)) (le_refl _);
      start = λ u. updated_elim (λ (e : Listener S). e.number ≡ ((σ.servers b).listener u).number → e.start ≡ ((σ.servers b).listener u).start) (σ.servers b).listener c _ u
          (λ e g. absurd (let d : k ≡ ((σ.servers b).listener c).number = subst (λ i. k ≡ ((σ.servers b).listener i).number) (sym e) g in omega arith)) (λ g. refl);
    }

    after_read_good : k ≤ (σ.clients c).number → GoodServer K σ.history σ.clients b after_read
    after_read_good h = record {
      genuine = (I.servers b f).genuine;
      reach = (I.servers b f).reach;
      listener = λ u. updated_elim (λ e. GoodListener K σ.history (σ.clients u).number b u e (σ.servers b).timestamp) (σ.servers b).listener c _ u
          (λ e. record {
            number = subst (λ i. k ≤ (σ.clients i).number) e h;
            floor = λ o s₁ q p j. (I.servers b f).reach s₁ q (prior_finish p) j;
            held = L.timestamps.irreflexive _;
          })
          ((I.servers b f).listener u);
    }

    pub safe_read : k ≤ (σ.clients c).number → Safe K (set_server σ b rest (server_read c b k (σ.servers b)).0 (server_read c b k (σ.servers b)).1)
    safe_read h = by_cond (λ (p : ServerState S V × List (Msg S V)). Safe K (set_server σ b rest p.0 p.1)) (ltb ((σ.servers b).listener c).number k)
        (after_read, value c b k (σ.servers b).timestamp (σ.servers b).value ∷ []) (σ.servers b, [])
        (λ e. let h' = lt_of _ _ e in
        safe_server K L σ b rest after_read (value c b k (σ.servers b).timestamp (σ.servers b).value ∷ []) (after_read_moves h') I r (λ g. after_read_good h) ((λ g. sent), tt))
        (λ e. safe_quiet b)
      where
        told : (e : Listener S) → e ≡ record { number = k; listening = true; start = (σ.servers b).timestamp } → (k ≤ e.number) × (e.number ≡ k → Le K e.start (σ.servers b).timestamp)
        told e g = (let d : e.number ≡ k = ap (λ (e : Listener S). e.number) g in omega arith, λ j. le_eq K L _ _ (ap (λ (e : Listener S). e.start) g))

        sent : SeenAt K σ.history (σ.clients c).number (updated σ.servers b after_read b) c b k (σ.servers b).timestamp (σ.servers b).value
        sent = subst (λ z. SeenAt K σ.history (σ.clients c).number z c b k (σ.servers b).timestamp (σ.servers b).value) (sym (updated_at σ.servers b after_read))
            (let d = told (after_read.listener c) (updated_at (σ.servers b).listener c _) in
            record {
              number = h;
              genuine = (I.servers b f).genuine;
              held = L.timestamps.irreflexive _;
              asked = d.0;
              from = d.1;
              floor = λ s₁ q p j. (I.servers b f).reach s₁ q (prior_finish p) j;
            })

    -- the server after a STOP that it takes
    abbrev pub after_stop : ServerState S V
    after_stop = record { timestamp = (σ.servers b).timestamp; value = (σ.servers b).value; listener = updated (σ.servers b).listener c (record { number = k; listening = false; start = ((σ.servers b).listener c).start }) }

    pub after_stop_moves : ((σ.servers b).listener c).number ≤ k → Moves K (σ.servers b) after_stop
    after_stop_moves h = record {
      held = L.timestamps.irreflexive _;
      listener = λ u. updated_elim (λ (e : Listener S). ((σ.servers b).listener u).number ≤ e.number) (σ.servers b).listener c _ u
          (λ e. subst (λ i. ((σ.servers b).listener i).number ≤ k) e h) (le_refl _);
      start = λ u. updated_elim (λ (e : Listener S). e.number ≡ ((σ.servers b).listener u).number → e.start ≡ ((σ.servers b).listener u).start) (σ.servers b).listener c _ u
          (λ e g. ap (λ i. ((σ.servers b).listener i).start) e) (λ g. refl);
    }

    after_stop_good : k ≤ (σ.clients c).number → GoodServer K σ.history σ.clients b after_stop
    after_stop_good h = record {
      genuine = (I.servers b f).genuine;
      reach = (I.servers b f).reach;
      listener = λ u. updated_elim (λ e. GoodListener K σ.history (σ.clients u).number b u e (σ.servers b).timestamp) (σ.servers b).listener c _ u
          (λ e. record {
            number = subst (λ i. k ≤ (σ.clients i).number) e h;
            floor = λ o. absurd (t≢f o refl);
            held = ((I.servers b f).listener c).held;
          })
          ((I.servers b f).listener u);
    }

    pub safe_stop : k ≤ (σ.clients c).number → Safe K (set_server σ b rest (server_stop c b k (σ.servers b)).0 [])
    safe_stop h = by_cond (λ x. Safe K (set_server σ b rest x [])) (leb ((σ.servers b).listener c).number k) after_stop (σ.servers b)
        (λ e. safe_server K L σ b rest after_stop [] (after_stop_moves (le_of _ _ e)) I r (λ g. after_stop_good h) tt)
        (λ e. safe_quiet b)
