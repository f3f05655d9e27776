-- Every call leaves every open operation going on, and the laws of all runs.
use Rattle.std.proofs.Common.{◌≡◌, ℕ, suc, ◌<◌, ◌≤◌, Bool, true, false, not, T, eqb, ◌⊎◌, List, [], ◌∷◌, Some, None, Option, refl, ap, ◌∙◌, subst, inl, inr, le_refl, arith}
use Rattle.reading.specs.Readings.{unread, updated, says, backers}
use Rattle.server.specs.Serving.{ServerState}
use Rattle.protocol.specs.Settings.{Setting, Lawful}
use Rattle.protocol.specs.Clients.{Phase, idle, asking, storing, reading, Client, to_all}
use Rattle.protocol.specs.Protocol.{lift}
use Rattle.protocol.specs.Runs.{In}
use Rattle.machine.proofs.Machine.{Msg, query, ts, store, ack, value, stop, Event, begun, State, Call, write, deliver, turn, forge, server_of, client_of, set_server, at_server, set_client, dropped, turned, forged, server_query, server_read, server_stop, server_store, handed, taken, free, may_forge, made, step, opened, run}
use Rattle.machine.proofs.Laws.{Laws}
use Rattle.machine.proofs.Base.{t≢f, by_cond, eq_of, eqb_same, lt_of, and_l, not-true, updated_elim, All, all-++, all_to, all_lift, in_lift, in_left, in_right, in_to}
use Rattle.machine.proofs.Safe.{Seen, Good, Safe, Later}
use Rattle.machine.proofs.Past.{old_chose, new_prior}
use Rattle.machine.proofs.SafeClient.{client_later}
use Rattle.machine.proofs.SafeRun.{safe_run, laws_of}
use Rattle.machine.proofs.Live.{LivePhase, StopOk, Live, live_flow, flow_keep}
use Rattle.machine.proofs.LiveServer.{live_quiet, live_query, live_store, live_read, live_stop}
use Rattle.machine.proofs.LiveClient.{none_short, live_client, live_ts_number, live_ts, live_ack_number, live_ack}
use Rattle.machine.proofs.LiveWatch.{decide_none}
use Rattle.machine.proofs.LiveRead.{live_value_number, live_value}

module _ {S V : Type 0} (K : Setting S V) (L : Lawful K) where
  module _ (σ : State S V) (A : Live K σ) (I : Safe K σ) where
    live_at_server : (b : ℕ) (rest : List (Msg S V)) (f : ServerState S V → ServerState S V × List (Msg S V)) → (σ.faulty b ≡ true → Live K (set_server σ b rest (σ.servers b) [])) →
        (σ.faulty b ≡ false → Live K (set_server σ b rest (f (σ.servers b)).0 (f (σ.servers b)).1)) → Live K (at_server σ b rest f)
    live_at_server b rest f g h = by_cond (Live K) (σ.faulty b) _ _ g h

    differ : (k current : ℕ) → eqb k current ≡ false → k ≡ current → ⊥
    differ k current e h = t≢f (subst (λ n. eqb k n ≡ true) h (eqb_same k)) e

    live_handed : (rest : List (Msg S V)) → All (Good K σ) rest → All (StopOk K σ.clients) rest → (l : Msg S V) → Good K σ l → StopOk K σ.clients l → client_of l < K.client_count →
        ((l' : Msg S V) → In l' σ.queue → (l' ≡ l) ⊎ In l' rest) → Live K (handed K σ rest l)
    live_handed rest r st (query c b k) g so cm keep = live_at_server b rest (server_query c b k) (live_quiet K L σ A I rest st b (query c b k) refl keep) (λ f. live_query K L σ A I rest r st c b k f keep)
    live_handed rest r st (store c b k s v) g so cm keep = live_at_server b rest (server_store K c b k s v) (live_quiet K L σ A I rest st b (store c b k s v) refl keep) (λ f. live_store K L σ A I rest r st c b k f s v keep)
    live_handed rest r st (Msg.read c b k) g so cm keep = live_at_server b rest (server_read c b k) (live_quiet K L σ A I rest st b (Msg.read c b k) refl keep) (λ f. live_read K L σ A I rest r st c b k f g keep)
    live_handed rest r st (stop c b k) g so cm keep = live_at_server b rest (server_stop c b k) (live_quiet K L σ A I rest st b (stop c b k) refl keep) (λ f. live_stop K L σ A I rest r st c b k f so keep)
    live_handed rest r st (ts c b k s) g so cm keep = by_cond (Live K) (eqb k (σ.clients c).number) _ (dropped σ rest)
        (λ e. live_ts K L σ A I rest r st c b k s keep (eq_of _ _ e) cm (σ.clients c).phase refl (A.clients c cm))
        (λ e. live_ts_number K L σ A I rest r st c b k s keep (differ _ _ e))
    live_handed rest r st (ack c b k s) g so cm keep = by_cond (Live K) (eqb k (σ.clients c).number) _ (dropped σ rest)
        (λ e. live_ack K L σ A I rest r st c b k s keep (eq_of _ _ e) cm (σ.clients c).phase refl (A.clients c cm))
        (λ e. live_ack_number K L σ A I rest r st c b k s keep (differ _ _ e))
    live_handed rest r st (value c b k s v) g so cm keep = by_cond (Live K) (eqb k (σ.clients c).number) _ (dropped σ rest)
        (λ e. live_value K L σ A I rest r st c b k s v keep (eq_of _ _ e) (λ f. subst (λ k. Seen K σ c b k s v) (eq_of _ _ e) (g f)) (σ.clients c).phase refl (A.clients c cm) (I.clients c))
        (λ e. live_value_number K L σ A I rest r st c b k s v keep (differ _ _ e))

    live_taken : (k : ℕ) → Live K (taken K σ (lift k σ.queue))
    live_taken k = go (lift k σ.queue) refl
      where
        go : (o : Option (Msg S V × List (Msg S V))) → lift k σ.queue ≡ o → Live K (taken K σ o)
        go None e = A
        go (Some p) e =
            let a = all_lift (Good K σ) k σ.queue p e I.messages in
            let s = all_lift (StopOk K σ.clients) k σ.queue p e A.stops in
            by_cond (Live K) _ _ σ (λ t. live_handed p.1 a.1 s.1 p.0 a.0 s.0 (lt_of _ _ (and_l _ _ t)) (λ l i. in_lift l k σ.queue p e i)) (λ t. A)

    -- an operation begins
    live_begin : (c : ℕ) (ph : Phase S V) (o : Option V) (ms : List (Msg S V)) → All (StopOk K (updated σ.clients c (record { number = suc (σ.clients c).number; last = (σ.clients c).last; phase = ph }))) ms →
        LivePhase K (set_client σ c σ.queue (record { number = suc (σ.clients c).number; last = (σ.clients c).last; phase = ph }) ms (begun c (suc (σ.clients c).number) o ∷ [])) c (suc (σ.clients c).number) ph →
        Live K (set_client σ c σ.queue (record { number = suc (σ.clients c).number; last = (σ.clients c).last; phase = ph }) ms (begun c (suc (σ.clients c).number) o ∷ []))
    live_begin c ph o ms sl g = live_client K L σ A I σ.queue I.messages A.stops (λ l. ⊥) c x ms es (λ l e. absurd e) (λ l e. absurd e) (λ l i. inr i)
        (client_later K L σ I σ.queue I.messages c x ms es (omega arith) (λ u k s q h p. elim (new_prior p) [
          | inl e ↦ absurd (let a = e.1 in let b : k ≤ (σ.clients c).number = subst (λ u. k ≤ (σ.clients u).number) e.0 h in omega arith)
          | inr p ↦ p
        ]))
        (λ b n u k s v i. inl (old_chose _ tt i)) (λ k n so y e. omega arith) sl g
      where
        x : Client S V
        x = record { number = suc (σ.clients c).number; last = (σ.clients c).last; phase = ph }

        es : List (Event S V)
        es = begun c (suc (σ.clients c).number) o ∷ []

    still : (b d : ℕ) → updated σ.faulty b true d ≡ false → σ.faulty d ≡ false
    still b d = updated_elim (λ (t : Bool). t ≡ false → σ.faulty d ≡ false) σ.faulty b true d (λ e f. absurd (t≢f refl f)) (λ f. f)

    live_turn : (b : ℕ) → Live K (turned σ b)
    live_turn b = live_flow K L A I E (λ c d n f. flow_keep K L c d (λ l nl i. i) refl (λ u k s v i. inl i)) A.stops (λ c cm. refl)
      where
        τ : State S V
        τ = turned σ b

        E : Later K σ τ
        E = record {
          correct = still b;
          held = λ d. L.timestamps.irreflexive _;
          number = λ c. le_refl _;
          history = λ e i. i;
          prior = λ c k s q h p. p;
          listener = λ d c. le_refl _;
          start = λ d c e. refl;
        }

    forged_stop : (l : Msg S V) → may_forge K σ l ≡ true → StopOk K σ.clients l
    forged_stop (query c b k) e = tt
    forged_stop (store c b k s v) e = tt
    forged_stop (Msg.read c b k) e = tt
    forged_stop (stop c b k) e = absurd (t≢f e refl)
    forged_stop (ts c b k s) e = tt
    forged_stop (ack c b k s) e = tt
    forged_stop (value c b k s v) e = tt

    live_forge : (l : Msg S V) → may_forge K σ l ≡ true → Live K (forged σ l)
    live_forge l h = live_flow K L A I E (λ c d n f. flow_keep K L c d (λ l' nl i. in_left σ.queue (l ∷ []) i) refl (λ u k s v i. inl i))
        (all-++ (StopOk K σ.clients) σ.queue (l ∷ []) A.stops (forged_stop l h, tt)) (λ c cm. refl)
      where
        E : Later K σ (forged σ l)
        E = record {
          correct = λ d f. f;
          held = λ d. L.timestamps.irreflexive _;
          number = λ c. le_refl _;
          history = λ e i. i;
          prior = λ c k s q h p. p;
          listener = λ d c. le_refl _;
          start = λ d c e. refl;
        }

    live_made : (call : Call S V) → Live K (made K σ call)
    live_made (write c v) = by_cond (Live K) (free K σ c) _ σ
        (λ e. live_begin c (asking v (λ b. false) K.lowest) (Some v) ms (all_to (StopOk K (updated σ.clients c (record { number = suc (σ.clients c).number; last = (σ.clients c).last; phase = asking v (λ b. false) K.lowest }))) K.rules.n (λ b. query c b (suc (σ.clients c).number)) (λ i. tt))
        (record { short = none_short K L; asked = λ b n f. inr (inl (in_right σ.queue ms (in_to K.rules.n (λ b. query c b (suc (σ.clients c).number)) b n))) }))
        (λ e. A)
      where
        ms : List (Msg S V)
        ms = to_all K.rules.n (λ b. query c b (suc (σ.clients c).number))
    live_made (Call.read c) = by_cond (Live K) (free K σ c) _ σ
        (λ e. live_begin c (reading (unread K.lowest K.initial)) None ms (all_to (StopOk K (updated σ.clients c (record { number = suc (σ.clients c).number; last = (σ.clients c).last; phase = reading (unread K.lowest K.initial) }))) K.rules.n (λ b. Msg.read c b (suc (σ.clients c).number)) (λ i. tt))
        (record {
          undecided = refl;
          started = λ b n f. inl (let a = ((I.servers b f).listener c).number in omega arith, in_right σ.queue ms (in_to K.rules.n (λ b. Msg.read c b (suc (σ.clients c).number)) b n), refl);
          coming = λ b n f h. absurd (let a = ((I.servers b f).listener c).number in omega arith);
          chase = inl (λ b n f. refl);
        }))
        (λ e. A)
      where
        ms : List (Msg S V)
        ms = to_all K.rules.n (λ b. Msg.read c b (suc (σ.clients c).number))
    live_made (deliver k) = live_taken k
    live_made (turn b) = by_cond (Live K) _ _ σ (λ e. live_turn b) (λ e. A)
    live_made (forge l) = by_cond (Live K) (may_forge K σ l) (forged σ l) σ (live_forge l) (λ e. A)

    pub live_step : (call : Call S V) → Live K (step K σ call)
    live_step call = by_cond (Live K) _ (made K σ call) σ (λ e. live_made call) (λ e. A)

    -- a quiet register is done
    module _ (quiet : (l : Msg S V) → In l σ.queue → σ.faulty (server_of l) ≡ true) where
      gone : (l : Msg S V) → σ.faulty (server_of l) ≡ false → In l σ.queue → ⊥
      gone l f i = t≢f (quiet l i) f

      correct_enough : (T : ℕ → Bool) → ((b : ℕ) → b < K.rules.n → σ.faulty b ≡ false → T b ≡ true) → K.rules.quorum T ≡ true
      correct_enough T f = L.quorums.larger_quorum (λ b. not (σ.faulty b)) T (λ b n e. f b n (not-true _ e)) (L.quorums.rest_quorum σ.faulty I.faulty_fail_prone)

      some_correct : (b : ℕ) × (b < K.rules.n) × (σ.faulty b ≡ false)
      some_correct = let q = L.quorums.rest_quorum σ.faulty I.faulty_fail_prone in let d = L.quorums.quorums_meet _ _ σ.faulty q q I.faulty_fail_prone in (d.0, d.1, d.4)

      quiet_phase : (c : ℕ) (ph : Phase S V) → LivePhase K σ c (σ.clients c).number ph → ph ≡ idle
      quiet_phase c idle g = refl
      quiet_phase c (asking v told t) g = absurd (t≢f (correct_enough told (λ b n f. elim (g.asked b n f) [
        | inl x ↦ x
        | inr (inl x) ↦ absurd (gone _ f x)
        | inr (inr (u, x)) ↦ absurd (gone _ f x)
      ])) g.short)
      quiet_phase c (storing s v acks) g = absurd (t≢f (correct_enough acks (λ b n f. elim (g.asked b n f) [
        | inl x ↦ x
        | inr (inl x) ↦ absurd (gone _ f x)
        | inr (inr x) ↦ absurd (gone _ f x)
      ])) g.short)
      quiet_phase c (reading r) g = elim g.chase [
        | inl x ↦ absurd (let d = some_correct in t≢f (entered d.0 d.1 d.2) (x d.0 d.1 d.2))
        | inr p ↦ absurd (decide_none K L r r.watched g.undecided p.s p.watched p.v (correct_enough (backers K.rules.same r p.s p.v) (λ b n f. elim (p.backs b n f (entered b n f)) [
          | inl e ↦ ap (λ o. says K.rules.same o p.v) e ∙ L.values.itself p.v
          | inr (inl (c', k', j)) ↦ absurd (gone _ f j)
          | inr (inr j) ↦ absurd (gone _ f j)
        ])))
      ]
        where
          entered : (b : ℕ) → b < K.rules.n → σ.faulty b ≡ false → r.entered b ≡ true
          entered b n f = elim (g.started b n f) [
            | inl x ↦ absurd (gone _ f x.1)
            | inr x ↦ elim x.2 [ inl e ↦ e | inr (s, v, j) ↦ absurd (gone _ f j) ]
          ]

  live_opened : Live K (opened K)
  live_opened = record { placed = λ b n f c k s v i. elim i [ ]; stops = tt; clients = λ c cm. tt }

  pub live_run : (calls : List (Call S V)) → Live K (run K calls)
  live_run [] = live_opened
  live_run (call ∷ calls) = live_step (run K calls) (live_run calls) (safe_run K L calls) call

  pub all_laws : (calls : List (Call S V)) → Laws K (run K calls)
  all_laws calls = laws_of K L (run K calls) (safe_run K L calls) (λ quiet c cm. quiet_phase (run K calls) (live_run calls) (safe_run K L calls) quiet c ((run K calls).clients c).phase ((live_run calls).clients c cm))
