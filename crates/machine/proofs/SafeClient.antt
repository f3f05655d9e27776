-- A client takes a message.
use Rattle.std.proofs.Common.{◌≡◌, ℕ, ◌<◌, ◌≤◌, Bool, true, false, cond, eqb, ◌⊎◌, List, [], ◌∷◌, ◌++◌, Some, None, Option, sym, refl, ap, ◌∙◌, subst, inl, inr, le_refl, arith}
use Rattle.timestamps.specs.Laws.{higher}
use Rattle.reading.specs.Readings.{updated, level}
use Rattle.protocol.specs.Settings.{Setting, Lawful}
use Rattle.protocol.specs.Clients.{Phase, idle, asking, storing, reading, Client, to_all}
use Rattle.protocol.specs.Runs.{is_asking, In, here}
use Rattle.machine.proofs.Machine.{Msg, store, Event, begun, chose, finished, spent, State, set_client, dropped, chosen, on_ts, on_ack}
use Rattle.machine.proofs.Base.{t≢f, Some≢None, by_cond, eq_of, updated_elim, updated_at, All, all_map, all-++, all_to, in_right, Le, le_trans, lt_le, lt_le_lt_r, le_eq, le_higher_l, le_higher_r, successor_candidate, level_eq}
use Rattle.machine.proofs.Safe.{Finish, Prior, prior_finish, Genuine, Told, Good, AskOk, StoreOk, GoodPhase, Past, Safe, Later, genuine_later, good_later, phase_later}
use Rattle.machine.proofs.Past.{old_prior, old_finish, new_finish, Grows, past_none, past_spent, past_chose, past_finished}

module _ {S V : Type 0} (K : Setting S V) (L : Lawful K) (σ : State S V) (I : Safe K σ) (rest : List (Msg S V)) (r : All (Good K σ) rest) where
  pub drop_later : Later K σ (dropped σ rest)
  drop_later = record {
    correct = λ d f. f;
    held = λ d. L.timestamps.irreflexive _;
    number = λ c. le_refl _;
    history = λ e i. i;
    prior = λ c k s q h p. p;
    listener = λ d c. le_refl _;
    start = λ d c e. refl;
  }

  pub safe_drop : Safe K (dropped σ rest)
  safe_drop = record {
    faulty_fail_prone = I.faulty_fail_prone;
    messages = all_map (Good K σ) (Good K (dropped σ rest)) (good_later K L drop_later) rest r;
    servers = I.servers;
    clients = λ c. phase_later K L drop_later c (σ.clients c).number (σ.clients c).phase (le_refl _) (I.clients c);
    past = I.past;
  }

  module _ (c : ℕ) (x : Client S V) (ms : List (Msg S V)) (es : List (Event S V)) where
    abbrev τ : State S V
    τ = set_client σ c rest x ms es

    -- the step makes no new predecessor of an old operation
    abbrev pub PriorsOld : Type 0
    PriorsOld = (u k : ℕ) (s : S) (q : ℕ → Bool) → k ≤ (σ.clients u).number → Prior (es ++ σ.history) u k s q → Prior σ.history u k s q

    pub client_later : (σ.clients c).number ≤ x.number → PriorsOld → Later K σ τ
    client_later n p = record {
      correct = λ d f. f;
      held = λ d. L.timestamps.irreflexive _;
      number = λ u. updated_elim (λ (y : Client S V). (σ.clients u).number ≤ y.number) σ.clients c x u (λ e. subst (λ i. (σ.clients i).number ≤ x.number) e n) (le_refl _);
      history = λ e i. in_right es σ.history i;
      prior = p;
      listener = λ d c. le_refl _;
      start = λ d c e. refl;
    }

    pub client_grows : (σ.clients c).number ≤ x.number → Le K (σ.clients c).last x.last → (is_asking x.phase ≡ true → ((is_asking (σ.clients c).phase ≡ true) × (x.number ≡ (σ.clients c).number)) ⊎ ((σ.clients c).number < x.number)) → Grows K σ.clients (updated σ.clients c x)
    client_grows n l a = record {
      number = λ u. updated_elim (λ (y : Client S V). (σ.clients u).number ≤ y.number) σ.clients c x u (λ e. subst (λ i. (σ.clients i).number ≤ x.number) e n) (le_refl _);
      last = λ u. updated_elim (λ (y : Client S V). Le K (σ.clients u).last y.last) σ.clients c x u (λ e. subst (λ i. Le K (σ.clients i).last x.last) e l) (L.timestamps.irreflexive _);
      ask = λ u. updated_elim (λ (y : Client S V). is_asking y.phase ≡ true → ((is_asking (σ.clients u).phase ≡ true) × (y.number ≡ (σ.clients u).number)) ⊎ ((σ.clients u).number < y.number)) σ.clients c x u
          (λ e. subst (λ i. is_asking x.phase ≡ true → ((is_asking (σ.clients i).phase ≡ true) × (x.number ≡ (σ.clients i).number)) ⊎ ((σ.clients i).number < x.number)) e a) (λ h. inl (h, refl));
    }

    pub safe_client : (σ.clients c).number ≤ x.number → PriorsOld →
        ((s : S) (q : ℕ → Bool) → Finish (es ++ σ.history) s q → Finish σ.history s q ⊎ ((b : ℕ) → σ.faulty b ≡ false → q b ≡ true → Le K s (σ.servers b).timestamp)) →
        GoodPhase K τ c x.number x.phase → All (Good K τ) ms → Past K (es ++ σ.history) (updated σ.clients c x) → Safe K τ
    safe_client n p finish g l past = record {
      faulty_fail_prone = I.faulty_fail_prone;
      messages = all-++ (Good K τ) rest ms (all_map (Good K σ) (Good K τ) (good_later K L E) rest r) l;
      servers = λ b f. let y = I.servers b f in record {
        genuine = genuine_later K L E y.genuine;
        reach = λ s q i j. elim (finish s q i) [ inl i ↦ y.reach s q i j | inr z ↦ z b f j ];
        listener = λ u. let e = y.listener u in let m = E.number u in record {
          number = let a = e.number in omega arith;
          floor = λ o s₁ q i j. e.floor o s₁ q (p u _ s₁ q e.number i) j;
          held = e.held;
        };
      };
      clients = λ u. updated_elim (λ (y : Client S V). GoodPhase K τ u y.number y.phase) σ.clients c x u
          (λ e. subst (λ i. GoodPhase K τ i x.number x.phase) e g)
          (phase_later K L E u (σ.clients u).number (σ.clients u).phase (le_refl _) (I.clients u));
      past = past;
    }
      where
        E : Later K σ τ
        E = client_later n p

  pub number_at : (c : ℕ) (x : Client S V) (k : ℕ) → k ≤ x.number → k ≤ (updated σ.clients c x c).number
  number_at c x k h = subst (λ (y : Client S V). k ≤ y.number) (sym (updated_at σ.clients c x)) h

  -- with no event, and with one that is no beginning
  pub safe_plain : (c : ℕ) (ph : Phase S V) → (is_asking ph ≡ true → is_asking (σ.clients c).phase ≡ true) → GoodPhase K σ c (σ.clients c).number ph →
      Safe K (set_client σ c rest (record { number = (σ.clients c).number; last = (σ.clients c).last; phase = ph }) [] [])
  safe_plain c ph a g = safe_client c x [] [] (le_refl _) (λ u k s q h p. p) (λ s q i. inl i)
      (phase_later K L (client_later c x [] [] (le_refl _) (λ u k s q h p. p)) c (σ.clients c).number ph (le_refl _) g) tt
      (past_none K L I.past (client_grows c x [] [] (le_refl _) (L.timestamps.irreflexive _) (λ h. inl (a h, refl))))
    where
      x : Client S V
      x = record { number = (σ.clients c).number; last = (σ.clients c).last; phase = ph }

  pub safe_spent : (c : ℕ) → Safe K (set_client σ c rest (record { number = (σ.clients c).number; last = (σ.clients c).last; phase = idle }) [] (spent c (σ.clients c).number ∷ []))
  safe_spent c = safe_client c x [] es (le_refl _) (λ u k s q h p. old_prior _ tt p) (λ s q i. inl (old_finish _ tt i)) tt tt (past_spent K L I.past (client_grows c x [] es (le_refl _) (L.timestamps.irreflexive _) (λ h. absurd (t≢f h refl))) c (σ.clients c).number)
    where
      x : Client S V
      x = record { number = (σ.clients c).number; last = (σ.clients c).last; phase = idle }

      es : List (Event S V)
      es = spent c (σ.clients c).number ∷ []

  -- an operation is finished on the servers q
  pub safe_finished : (c : ℕ) (s : S) (o : Option V) (q : ℕ → Bool) (ms : List (Msg S V)) → K.rules.quorum q ≡ true →
      ((b : ℕ) → σ.faulty b ≡ false → q b ≡ true → Le K s (σ.servers b).timestamp) →
      ((v : V) → o ≡ Some v → Genuine K σ.history s v × ((s₁ : S) (q₁ : ℕ → Bool) → Prior σ.history c (σ.clients c).number s₁ q₁ → Le K s₁ s) × In (begun c (σ.clients c).number None) σ.history) →
      (o ≡ None → (v : V) × In (chose c (σ.clients c).number s v) σ.history) →
      All (Good K (set_client σ c rest (record { number = (σ.clients c).number; last = (σ.clients c).last; phase = idle }) ms (finished c (σ.clients c).number s o q ∷ []))) ms →
      Safe K (set_client σ c rest (record { number = (σ.clients c).number; last = (σ.clients c).last; phase = idle }) ms (finished c (σ.clients c).number s o q ∷ []))
  safe_finished c s o q ms enough held rd wr l =
      safe_client c x ms es (le_refl _) (λ u k s q h p. old_prior _ tt p)
      (λ t y i. elim (new_finish i) [ inl a ↦ inr (λ b f j. subst (λ t. Le K t (σ.servers b).timestamp) (sym a.0) (held b f (sym (ap (λ (z : ℕ → Bool). z b) a.1) ∙ j))) | inr i ↦ inl i ])
      tt l (past_finished K L I.past (client_grows c x ms es (le_refl _) (L.timestamps.irreflexive _) (λ h. absurd (t≢f h refl))) c (σ.clients c).number s o q (le_refl _) enough rd wr)
    where
      x : Client S V
      x = record { number = (σ.clients c).number; last = (σ.clients c).last; phase = idle }

      es : List (Event S V)
      es = finished c (σ.clients c).number s o q ∷ []

  -- TS from server b
  module _ (c b : ℕ) (s : S) (l : σ.faulty b ≡ false → Told K σ c b (σ.clients c).number s) where
    told_floor : (v : V) (told : ℕ → Bool) (t : S) → AskOk K σ c (σ.clients c).number v told t → (d : ℕ) → σ.faulty d ≡ false → updated told b true d ≡ true →
        (s₁ : S) (q : ℕ → Bool) → Prior σ.history c (σ.clients c).number s₁ q → q d ≡ true → Le K s₁ (higher K.rules.above t s)
    told_floor v told t g d f i s₁ q p j = go (eqb b d) refl i
      where
        go : (u : Bool) → eqb b d ≡ u → cond u true (told d) ≡ true → Le K s₁ (higher K.rules.above t s)
        go true e i =
            let e' = eq_of b d e in
            le_trans K L _ _ _ ((l (subst (λ d. σ.faulty d ≡ false) (sym e') f)).floor s₁ q p (subst (λ d. q d ≡ true) (sym e') j)) (le_higher_r K L t s)
        go false e i = le_trans K L _ _ _ (g.floor d f i s₁ q p j) (le_higher_l K L t s)

    pub safe_ts : (ph : Phase S V) → (σ.clients c).phase ≡ ph → GoodPhase K σ c (σ.clients c).number ph → Safe K (on_ts K σ c b s rest ph)
    safe_ts idle pe g = safe_drop
    safe_ts (storing t v acks) pe g = safe_drop
    safe_ts (reading y) pe g = safe_drop
    safe_ts (asking v told t) pe g =
        by_cond (Safe K) (told b) (dropped σ rest) _ (λ e. safe_drop) (λ e.
        by_cond (Safe K) (K.rules.quorum (updated told b true)) _ _
        (λ enough. choose enough (K.successor c (higher K.rules.above t s) (σ.clients c).last) refl)
        (λ e. safe_plain c (asking v (updated told b true) (higher K.rules.above t s)) (λ h. ap (is_asking) pe) (record {
          origin = g.origin;
          floor = told_floor v told t g;
        })))
      where
        choose : K.rules.quorum (updated told b true) ≡ true → (o : Option S) → K.successor c (higher K.rules.above t s) (σ.clients c).last ≡ o → Safe K (chosen K σ c rest v o)
        choose enough None e = safe_spent c
        choose enough (Some z) e =
            let nx = successor_candidate K L c (higher K.rules.above t s) (σ.clients c).last z e in
            safe_client c x ms es (le_refl _) (λ u k s q h p. old_prior _ tt p) (λ s q i. inl (old_finish _ tt i))
            (record { origin = here; held = λ b f i. absurd (t≢f i refl) })
            (all_to (Good K (set_client σ c rest x ms es)) K.rules.n (λ b. store c b (σ.clients c).number z v) (λ i. here))
            (past_chose K L I.past (client_grows c x ms es (le_refl _) (lt_le K L _ _ nx.above_second) (λ h. absurd (t≢f h refl))) c (σ.clients c).number z v
            (record {
              number = le_refl _;
              owner = nx.owned;
              above = nx.above_second;
              last = le_eq K L _ _ (sym (ap (λ (y : Client S V). y.last) (updated_at σ.clients c x)));
              origin = g.origin;
              asked = ap (is_asking) pe;
              current = refl;
              shut = ap (λ (y : Client S V). is_asking y.phase) (updated_at σ.clients c x);
              floor = λ s₁ q p.
                  let d = L.quorums.quorums_meet (updated told b true) q σ.faulty enough (I.past.enough s₁ q (prior_finish p)) I.faulty_fail_prone in
                  lt_le_lt_r K L _ _ _ (told_floor v told t g d.0 d.4 d.2 s₁ q p d.3) nx.above_first;
            }))
          where
            x : Client S V
            x = record { number = (σ.clients c).number; last = z; phase = storing z v (λ b. false) }

            ms : List (Msg S V)
            ms = to_all K.rules.n (λ b. store c b (σ.clients c).number z v)

            es : List (Event S V)
            es = chose c (σ.clients c).number z v ∷ []

  -- ACK from server b
  module _ (c b : ℕ) (s : S) (l : σ.faulty b ≡ false → Le K s (σ.servers b).timestamp) where
    acked : (t : S) (v : V) (acks : ℕ → Bool) → level K.rules.above s t ≡ true → StoreOk K σ c (σ.clients c).number t v acks → (d : ℕ) → σ.faulty d ≡ false → updated acks b true d ≡ true → Le K t (σ.servers d).timestamp
    acked t v acks e g d f i = go (eqb b d) refl i
      where
        go : (u : Bool) → eqb b d ≡ u → cond u true (acks d) ≡ true → Le K t (σ.servers d).timestamp
        go true h i =
            let h' = eq_of b d h in
            subst (λ d. Le K t (σ.servers d).timestamp) h' (subst (λ t. Le K t (σ.servers b).timestamp) (level_eq K L s t e) (l (subst (λ d. σ.faulty d ≡ false) (sym h') f)))
        go false h i = g.held d f i

    pub safe_ack : (ph : Phase S V) → GoodPhase K σ c (σ.clients c).number ph → Safe K (on_ack K σ c b s rest ph)
    safe_ack idle g = safe_drop
    safe_ack (asking t v acks) g = safe_drop
    safe_ack (reading y) g = safe_drop
    safe_ack (storing t v acks) g =
        by_cond (Safe K) (level K.rules.above s t) _ (dropped σ rest)
        (λ e. by_cond (Safe K) (K.rules.quorum (updated acks b true)) _ _
        (λ enough. safe_finished c t None (updated acks b true) [] enough (acked t v acks e g) (λ v e. absurd (Some≢None e refl)) (λ e. (v, g.origin)) tt)
        (λ _. safe_plain c (storing t v (updated acks b true)) (λ h. absurd (t≢f h refl)) (record { origin = g.origin; held = acked t v acks e g })))
        (λ e. safe_drop)
