-- Every call keeps the state safe.
use Rattle.std.proofs.Common.{◌≡◌, ℕ, suc, ◌<◌, ◌≤◌, Bool, true, false, cond, eqb, ltb, List, [], ◌∷◌, Some, None, Option, refl, subst, inl, inr, le_refl, arith}
use Rattle.reading.specs.Readings.{unread, updated}
use Rattle.server.specs.Serving.{ServerState}
use Rattle.protocol.specs.Settings.{Setting, Lawful}
use Rattle.protocol.specs.Clients.{Phase, idle, asking, reading, Client}
use Rattle.protocol.specs.Protocol.{lift}
use Rattle.protocol.specs.Runs.{In, here}
use Rattle.machine.proofs.Machine.{Msg, query, ts, store, ack, value, stop, Event, begun, State, Call, write, deliver, turn, forge, server_of, set_server, at_server, set_client, dropped, turned, forged, server_query, server_read, server_stop, server_store, handed, taken, free, may_forge, made, step, opened, run}
use Rattle.machine.proofs.Laws.{Laws}
use Rattle.machine.proofs.Base.{t≢f, Some≢None, by_cond, eq_of, and_r, updated_elim, All, all_map, all-++, all_to, all_lift}
use Rattle.machine.proofs.Safe.{Seen, Told, Good, GoodPhase, Safe, Later, good_later, phase_later}
use Rattle.machine.proofs.SafeServer.{safe_quiet, safe_query, safe_store, safe_read, safe_stop}
use Rattle.machine.proofs.Past.{old_finish, new_prior, past_begun}
use Rattle.machine.proofs.SafeClient.{safe_drop, client_grows, safe_client, number_at, safe_ts, safe_ack}
use Rattle.machine.proofs.SafeRead.{safe_value}

module _ {S V : Type 0} (K : Setting S V) (L : Lawful K) where
  module _ (σ : State S V) (I : Safe K σ) where
    -- an operation begins
    pub safe_begin : (c : ℕ) (ph : Phase S V) (o : Option V) (ms : List (Msg S V)) →
        GoodPhase K (set_client σ c σ.queue (record { number = suc (σ.clients c).number; last = (σ.clients c).last; phase = ph }) ms (begun c (suc (σ.clients c).number) o ∷ [])) c (suc (σ.clients c).number) ph →
        All (Good K (set_client σ c σ.queue (record { number = suc (σ.clients c).number; last = (σ.clients c).last; phase = ph }) ms (begun c (suc (σ.clients c).number) o ∷ []))) ms →
        Safe K (set_client σ c σ.queue (record { number = suc (σ.clients c).number; last = (σ.clients c).last; phase = ph }) ms (begun c (suc (σ.clients c).number) o ∷ []))
    safe_begin c ph o ms g l =
        safe_client K L σ I σ.queue I.messages c x ms es (omega arith)
        (λ u k s q h p. elim (new_prior p) [
          | inl e ↦ absurd (let a = e.1 in let b : k ≤ (σ.clients c).number = subst (λ u. k ≤ (σ.clients u).number) e.0 h in omega arith)
          | inr p ↦ p
        ])
        (λ s q i. inl (old_finish _ tt i)) g l
        (past_begun K L I.past (client_grows K L σ I σ.queue I.messages c x ms es (omega arith) (L.timestamps.irreflexive _) (λ h. inr (omega arith))) c (suc (σ.clients c).number) o (omega arith)
        (number_at K L σ I σ.queue I.messages c x (suc (σ.clients c).number) (le_refl _)))
      where
        x : Client S V
        x = record { number = suc (σ.clients c).number; last = (σ.clients c).last; phase = ph }

        es : List (Event S V)
        es = begun c (suc (σ.clients c).number) o ∷ []

    safe_at_server : (b : ℕ) (rest : List (Msg S V)) (f : ServerState S V → ServerState S V × List (Msg S V)) → All (Good K σ) rest →
        (σ.faulty b ≡ false → Safe K (set_server σ b rest (f (σ.servers b)).0 (f (σ.servers b)).1)) → Safe K (at_server σ b rest f)
    safe_at_server b rest f r g = by_cond (Safe K) (σ.faulty b) _ _ (λ e. safe_quiet K L σ I rest r b) g

    -- a message whose number is the client's
    safe_at_client : (rest : List (Msg S V)) → All (Good K σ) rest → (k current : ℕ) (τ : State S V) → (k ≡ current → Safe K τ) → Safe K (cond (eqb k current) τ (dropped σ rest))
    safe_at_client rest r k current τ f = by_cond (Safe K) (eqb k current) τ (dropped σ rest) (λ e. f (eq_of k current e)) (λ e. safe_drop K L σ I rest r)

    pub safe_handed : (rest : List (Msg S V)) → All (Good K σ) rest → (l : Msg S V) → Good K σ l → Safe K (handed K σ rest l)
    safe_handed rest r (query c b k) g = safe_at_server b rest (server_query c b k) r (λ f. safe_query K L σ I rest r c b k f g)
    safe_handed rest r (store c b k s v) g = safe_at_server b rest (server_store K c b k s v) r (λ f. safe_store K L σ I rest r c b k f s v g)
    safe_handed rest r (Msg.read c b k) g = safe_at_server b rest (server_read c b k) r (λ f. safe_read K L σ I rest r c b k f g)
    safe_handed rest r (stop c b k) g = safe_at_server b rest (server_stop c b k) r (λ f. safe_stop K L σ I rest r c b k f g)
    safe_handed rest r (ts c b k s) g = safe_at_client rest r k (σ.clients c).number _
        (λ e. safe_ts K L σ I rest r c b s (λ f. subst (λ k. Told K σ c b k s) e (g f)) (σ.clients c).phase refl (I.clients c))
    safe_handed rest r (ack c b k s) g = safe_at_client rest r k (σ.clients c).number _ (λ e. safe_ack K L σ I rest r c b s g (σ.clients c).phase (I.clients c))
    safe_handed rest r (value c b k s v) g = safe_at_client rest r k (σ.clients c).number _
        (λ e. safe_value K L σ I rest r c b s v (λ f. subst (λ k. Seen K σ c b k s v) e (g f)) (σ.clients c).phase (I.clients c))

    safe_taken : (k : ℕ) → Safe K (taken K σ (lift k σ.queue))
    safe_taken k = go (lift k σ.queue) refl
      where
        go : (o : Option (Msg S V × List (Msg S V))) → lift k σ.queue ≡ o → Safe K (taken K σ o)
        go None e = I
        go (Some p) e = let a = all_lift (Good K σ) k σ.queue p e I.messages in by_cond (Safe K) _ _ σ (λ t. safe_handed p.1 a.1 p.0 a.0) (λ t. I)

    still : (b d : ℕ) → updated σ.faulty b true d ≡ false → σ.faulty d ≡ false
    still b d = updated_elim (λ (t : Bool). t ≡ false → σ.faulty d ≡ false) σ.faulty b true d (λ e f. absurd (t≢f refl f)) (λ f. f)

    safe_turn : (b : ℕ) → K.rules.fail_prone (updated σ.faulty b true) ≡ true → Safe K (turned σ b)
    safe_turn b h = record {
      faulty_fail_prone = h;
      messages = all_map (Good K σ) (Good K τ) (good_later K L E) σ.queue I.messages;
      servers = λ d f. I.servers d (still b d f);
      clients = λ c. phase_later K L E c (σ.clients c).number (σ.clients c).phase (le_refl _) (I.clients c);
      past = I.past;
    }
      where
        τ : State S V
        τ = turned σ b

        E : Later K σ τ
        E = record {
          correct = still b;
          held = λ d. L.timestamps.irreflexive _;
          number = λ c. le_refl _;
          history = λ e i. i;
          prior = λ c k s q h p. p;
          listener = λ d c. le_refl _;
          start = λ d c e. refl;
        }

    forged_good : (l : Msg S V) → may_forge K σ l ≡ true → Good K (forged σ l) l
    forged_good (query c b k) e = absurd (t≢f e refl)
    forged_good (store c b k s v) e = absurd (t≢f e refl)
    forged_good (Msg.read c b k) e = absurd (t≢f e refl)
    forged_good (stop c b k) e = absurd (t≢f e refl)
    forged_good (ts c b k s) e = λ f. absurd (t≢f (and_r (ltb c K.client_count) _ e) f)
    forged_good (ack c b k s) e = λ f. absurd (t≢f (and_r (ltb c K.client_count) _ e) f)
    forged_good (value c b k s v) e = λ f. absurd (t≢f (and_r (ltb c K.client_count) _ e) f)

    safe_forge : (l : Msg S V) → may_forge K σ l ≡ true → Safe K (forged σ l)
    safe_forge l h = record {
      faulty_fail_prone = I.faulty_fail_prone;
      messages = all-++ (Good K τ) σ.queue (l ∷ []) (all_map (Good K σ) (Good K τ) (good_later K L E) σ.queue I.messages) (forged_good l h, tt);
      servers = I.servers;
      clients = λ c. phase_later K L E c (σ.clients c).number (σ.clients c).phase (le_refl _) (I.clients c);
      past = I.past;
    }
      where
        τ : State S V
        τ = forged σ l

        E : Later K σ τ
        E = record {
          correct = λ d f. f;
          held = λ d. L.timestamps.irreflexive _;
          number = λ c. le_refl _;
          history = λ e i. i;
          prior = λ c k s q h p. p;
          listener = λ d c. le_refl _;
          start = λ d c e. refl;
        }

    safe_made : (call : Call S V) → Safe K (made K σ call)
    safe_made (write c v) = by_cond (Safe K) (free K σ c) _ σ
        (λ e. safe_begin c (asking v (λ b. false) K.lowest) (Some v) _ (record { origin = here; floor = λ b f i. absurd (t≢f i refl) })
        (all_to (Good K _) K.rules.n (λ b. query c b (suc (σ.clients c).number)) (λ i. number_at K L σ I σ.queue I.messages c _ _ (le_refl _))))
        (λ e. I)
    safe_made (Call.read c) = by_cond (Safe K) (free K σ c) _ σ
        (λ e. safe_begin c (reading (unread K.lowest K.initial)) None _ (record { origin = here; latest = λ b f i. absurd (t≢f i refl); evidence = λ b s v f i. absurd (Some≢None i refl) })
        (all_to (Good K _) K.rules.n (λ b. Msg.read c b (suc (σ.clients c).number)) (λ i. number_at K L σ I σ.queue I.messages c _ _ (le_refl _))))
        (λ e. I)
    safe_made (deliver k) = safe_taken k
    safe_made (turn b) = by_cond (Safe K) _ _ σ (λ e. safe_turn b (and_r (ltb b K.rules.n) _ e)) (λ e. I)
    safe_made (forge l) = by_cond (Safe K) (may_forge K σ l) (forged σ l) σ (safe_forge l) (λ e. I)

    pub safe_step : (call : Call S V) → Safe K (step K σ call)
    safe_step call = by_cond (Safe K) _ (made K σ call) σ (λ e. safe_made call) (λ e. I)

  safe_opened : Safe K (opened K)
  safe_opened = record {
    faulty_fail_prone = L.quorums.none_fail_prone;
    messages = tt;
    servers = λ b f. record {
      genuine = inl (refl, refl);
      reach = λ s q i. elim i.at [ ];
      listener = λ c. record { number = le_refl _; floor = λ o s q i. elim i.at [ ]; held = L.timestamps.irreflexive _ };
    };
    clients = λ c. tt;
    past = record {
      number_begun = λ c k o i. elim i [ ];
      number_finished = λ c k s o q i. elim i [ ];
      choice = λ c k s v i. elim i [ ];
      unique = λ c k c' k' s v v' i. elim i [ ];
      once = λ c k s s' v v' i. elim i [ ];
      wrote = λ c k s q i. elim i [ ];
      enough = λ s q i. elim i.at [ ];
      writes = λ c k s₁ s v q i. elim i.at [ ];
      reads = λ c k s₁ s v q₁ q i. elim i.at [ ];
      read_began = λ c k s v q i. elim i [ ];
      source = λ c k s v q i. elim i [ ];
    };
  }

  pub safe_run : (calls : List (Call S V)) → Safe K (run K calls)
  safe_run [] = safe_opened
  safe_run (call ∷ calls) = safe_step (run K calls) (safe_run calls) call

  pub laws_of : (σ : State S V) → Safe K σ → (((l : Msg S V) → In l σ.queue → σ.faulty (server_of l) ≡ true) → (c : ℕ) → c < K.client_count → (σ.clients c).phase ≡ idle) → Laws K σ
  laws_of σ I q = record {
    later_write_above = λ c₁ k₁ c k s₁ s o₁ v v' q₁ b i. I.past.writes c k s₁ s v q₁ (record { c₁ = c₁; k₁ = k₁; o₁ = o₁; o = Some v'; at = b }) i;
    later_read_not_below = λ c₁ k₁ c k s₁ s o₁ v q₁ q b i. I.past.reads c k s₁ s v q₁ q (record { c₁ = c₁; k₁ = k₁; o₁ = o₁; o = None; at = b }) i;
    timestamps_differ = I.past.unique;
    chosen_once = I.past.once;
    finished_write_chosen = I.past.wrote;
    chosen_was_begun = λ c k s v i. (I.past.choice c k s v i).origin;
    finished_read_began = I.past.read_began;
    read_genuine = I.past.source;
    quiet_is_done = q;
  }
