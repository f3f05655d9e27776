-- The machine hands a message over as the protocol does.
use Rattle.std.proofs.Common.{◌≡◌, ℕ, zero, suc, Bool, true, false, cond, eqb, ltb, List, [], ◌∷◌, ◌++◌, map, Some, None, Option, sym, refl, ap, ◌∙◌, subst, append-nil}
use Rattle.calls.specs.declared.Answer.{Answer}
use Rattle.calls.specs.declared.Answer.TheVariants.{Begun, Taken, FinishedWrite, FinishedRead, Spent, Turned, Forged, Refused}
use Rattle.network.specs.Kinds.{kind_of}
use Rattle.network.specs.declared.message.Kind.{Kind}
use Rattle.network.specs.declared.message.Kind.TheVariants.{Query, Ts, Store, Ack, Read, Value, Stop}
use Rattle.network.specs.declared.message.Message.{Message}
use Rattle.reading.specs.Readings.{Reading, updated, level}
use Rattle.server.specs.declared.state.Listener.{Listener}
use Rattle.server.specs.Serving as W
use Rattle.server.specs.Serving.{ServerState, Reaction}
use Rattle.protocol.specs.Settings.{Setting}
use Rattle.protocol.specs.Clients as C
use Rattle.protocol.specs.Clients.{Phase, idle, asking, storing, reading, Client, Outcome}
use Rattle.protocol.specs.Protocol.{State, with_server, with_client, from_server, at_server, at_client}
use Rattle.protocol.specs.Runs.{In, here, there, is_asking}
use Rattle.machine.proofs.Machine as M
use Rattle.machine.proofs.Base.{zero≢one, t≢f}
use Rattle.machine.proofs.Meaning.{by_both, updated_same, map-++, map_to_all, meaning, meant, shown, sent_behind}

-- an answer that tells of no beginning and no end
abbrev pub plain : {S V : Type 0} → Answer S V → Bool
plain (Begun c k) = false
plain Taken = true
plain (FinishedWrite c k t) = false
plain (FinishedRead c k t v) = false
plain (Spent c k) = true
plain Turned = true
plain Forged = true
plain (Refused e) = true

-- the events of what client c, which is x, makes of a message
pub record Tells {S V : Type 0} (c : ℕ) (x : Client S V) (o : Outcome S V) (es : List (M.Event S V)) : Type 0 where
  pub begun_not : (d k : ℕ) → o.answer ≡ Begun d k → ⊥
  pub chosen : (t : S) (v : V) (acks : ℕ → Bool) → is_asking x.phase ≡ true → o.after.phase ≡ storing t v acks → es ≡ (M.chose c o.after.number t v ∷ [])
  pub ended_write : (d k : ℕ) (t : S) → o.answer ≡ FinishedWrite d k t → (q : ℕ → Bool) × (es ≡ (M.finished d k t None q ∷ []))
  pub ended_read : (d k : ℕ) (t : S) (v : V) → o.answer ≡ FinishedRead d k t v → (q : ℕ → Bool) × (es ≡ (M.finished d k t (Some v) q ∷ []))
  pub no_begun : (d k : ℕ) (u : Option V) → In (M.begun d k u) es → ⊥
  pub from_chose : (d k : ℕ) (t : S) (v : V) → In (M.chose d k t v) es →
      (acks : ℕ → Bool) × (d ≡ c) × (is_asking x.phase ≡ true) × (o.after.number ≡ k) × (o.after.phase ≡ storing t v acks)

-- the only element of a list
pub in_one : {A : Type 0} {a b : A} → In a (b ∷ []) → a ≡ b
in_one here = refl
in_one (there i) = elim i [ ]

module _ {S V : Type 0} (c : ℕ) (x : Client S V) (o : Outcome S V) where
  -- no event
  tells_none : plain o.answer ≡ true → ((t : S) (v : V) (acks : ℕ → Bool) → is_asking x.phase ≡ true → o.after.phase ≡ storing t v acks → ⊥) → Tells c x o []
  tells_none p f = record {
    begun_not = λ d k e. t≢f p (ap plain e);
    chosen = λ t v acks a e. absurd (f t v acks a e);
    ended_write = λ d k t e. absurd (t≢f p (ap plain e));
    ended_read = λ d k t v e. absurd (t≢f p (ap plain e));
    no_begun = λ d k u i. elim i [ ];
    from_chose = λ d k t v i. elim i [ ];
  }

  -- the write chose
  tells_chose : (t : S) (v : V) (acks : ℕ → Bool) → o.answer ≡ Taken → is_asking x.phase ≡ true → o.after.phase ≡ storing t v acks → Tells c x o (M.chose c o.after.number t v ∷ [])
  tells_chose t v acks p a e = record {
    begun_not = λ d k e'. zero≢one cc;
    chosen = λ t' v' acks' a' e'. let i : t ≡ t' = cc in let j : v ≡ v' = cc in cc;
    ended_write = λ d k t e'. absurd (zero≢one cc);
    ended_read = λ d k t v e'. absurd (zero≢one cc);
    no_begun = λ d k u i. let e' = in_one i in zero≢one cc;
    from_chose = λ d k t' v' i. let e' = in_one i in
        let i0 : d ≡ c = cc in let i1 : o.after.number ≡ k = cc in let i2 : o.after.phase ≡ storing t' v' acks = cc in (acks, i0, a, i1, i2);
  }

  -- the write found no timestamp
  tells_spent : (k : ℕ) → o.answer ≡ Spent c k → o.after.phase ≡ idle → Tells c x o (M.spent c k ∷ [])
  tells_spent k p e = record {
    begun_not = λ d k e'. zero≢one cc;
    chosen = λ t' v' acks' a' e'. absurd (zero≢one cc);
    ended_write = λ d k' t' e'. absurd (zero≢one cc);
    ended_read = λ d k t v e'. absurd (zero≢one cc);
    no_begun = λ d k u i. let e' = in_one i in zero≢one cc;
    from_chose = λ d k t' v' i. let e' = in_one i in absurd (zero≢one cc);
  }

  -- the write finished
  tells_write : (k : ℕ) (t : S) (q : ℕ → Bool) → o.answer ≡ FinishedWrite c k t → o.after.phase ≡ idle → Tells c x o (M.finished c k t None q ∷ [])
  tells_write k t q p e = record {
    begun_not = λ d k e'. zero≢one cc;
    chosen = λ t' v' acks' a' e'. absurd (zero≢one cc);
    ended_write = λ d k' t' e'. (q, cc);
    ended_read = λ d k t v e'. absurd (zero≢one cc);
    no_begun = λ d k u i. let e' = in_one i in zero≢one cc;
    from_chose = λ d k t' v' i. let e' = in_one i in absurd (zero≢one cc);
  }

  -- the read finished
  tells_read : (k : ℕ) (t : S) (v : V) (q : ℕ → Bool) → o.answer ≡ FinishedRead c k t v → o.after.phase ≡ idle → Tells c x o (M.finished c k t (Some v) q ∷ [])
  tells_read k t v q p e = record {
    begun_not = λ d k e'. zero≢one cc;
    chosen = λ t' v' acks' a' e'. absurd (zero≢one cc);
    ended_write = λ d k' t' e'. absurd (zero≢one cc);
    ended_read = λ d k t v e'. (q, cc);
    no_begun = λ d k u i. let e' = in_one i in zero≢one cc;
    from_chose = λ d k t' v' i. let e' = in_one i in absurd (zero≢one cc);
  }

module _ {S V : Type 0} (K : Setting S V) where
  -- what one server passes on means what the machine's passes on
  passed_same : (m : Message S V) (listener : ℕ → Listener S) (n : ℕ) →
      M.passed_on K m.server n listener m.timestamp m.value ≡ map meaning (W.passed_on K.rules.above m listener n)
  passed_same m listener zero = refl
  passed_same m listener (suc n) =
      ap (λ xs. xs ++ M.passed_to K m.server n (listener n) m.timestamp m.value) (passed_same m listener n)
      ∙ ap (λ xs. map meaning (W.passed_on K.rules.above m listener n) ++ xs)
      (by_both (λ (a : List (M.Msg S V)) (b : List (Message S V)). a ≡ map meaning b) (W.wants K.rules.above (listener n) m.timestamp) _ [] _ [] (λ e. refl) (λ e. refl))
      ∙ sym (map-++ meaning (W.passed_on K.rules.above m listener n) _)

  module _ (σ : State S V) (h : List (M.Event S V)) (rest : List (Message S V)) (m : Message S V) where
    -- the machine is where a reaction of the message's server leads
    abbrev Reacts : M.State S V → Reaction S V → Type 0
    Reacts τ r = τ ≡ shown (with_server σ m.server r.after (rest ++ r.sent)) h

    -- a server that becomes what the reaction says, and sends what means the same
    reacts : (x : ServerState S V) (ms : List (M.Msg S V)) (r : Reaction S V) → x ≡ r.after → ms ≡ map meaning r.sent → Reacts (M.set_server (shown σ h) m.server (map meaning rest) x ms) r
    reacts x ms r e q = λ i. record {
      faulty = σ.faulty;
      servers = updated σ.servers m.server (e i);
      clients = σ.clients;
      queue = sent_behind rest r.sent ms q i;
      history = h;
    }

    -- the pair held after a STORE, field by field or as a whole
    store_after : (x : ServerState S V) (t : Bool) →
        ◌≡◌ {A = ServerState S V} (record { timestamp = cond t m.timestamp x.timestamp; value = cond t m.value x.value; listener = x.listener }) (cond t (W.holding x m.timestamp m.value) x)
    store_after x true = refl
    store_after x false = refl

    -- a server that is correct or faulty
    at_either : (f : ServerState S V → ServerState S V × List (M.Msg S V)) (r : Reaction S V) →
        Reacts (M.set_server (shown σ h) m.server (map meaning rest) (f (σ.servers m.server)).0 (f (σ.servers m.server)).1) r →
        Reacts (M.at_server (shown σ h) m.server (map meaning rest) f) (cond (σ.faulty m.server) (W.ignored K.rules.above K.lowest K.initial (σ.servers m.server)) r)
    at_either f r g = by_both Reacts (σ.faulty m.server) _ _ _ r (λ e. reacts (σ.servers m.server) [] _ refl refl) (λ e. g)

    -- what a correct server does with the message, taken as one of a kind
    abbrev as_kind : Kind → Reaction S V
    as_kind kind = W.by_kind K.rules.above K.lowest K.initial kind K.client_count (σ.servers m.server) m

    -- a message to a server, by its kind
    server_kind : (kind : Kind) → from_server kind ≡ false →
        Reacts (M.handed K (shown σ h) (map meaning rest) (meant (Some kind) m))
        (cond (σ.faulty m.server) (W.ignored K.rules.above K.lowest K.initial (σ.servers m.server)) (as_kind kind))
    server_kind Query e = at_either (M.server_query m.client m.server m.number) (as_kind Query) (reacts _ _ (as_kind Query) refl refl)
    server_kind Store e = at_either (M.server_store K m.client m.server m.number m.timestamp m.value) (as_kind Store)
        (reacts _ _ (as_kind Store) (store_after (σ.servers m.server) (K.rules.above m.timestamp (σ.servers m.server).timestamp))
        (ap (λ xs. M.ack m.client m.server m.number m.timestamp ∷ xs) (passed_same m (σ.servers m.server).listener K.client_count)))
    server_kind Read e = at_either (M.server_read m.client m.server m.number) (as_kind Read)
        (by_both (λ (p : ServerState S V × List (M.Msg S V)) (r : Reaction S V). Reacts (M.set_server (shown σ h) m.server (map meaning rest) p.0 p.1) r)
        (ltb ((σ.servers m.server).listener m.client).number m.number) _ _ _ _ (λ e. reacts _ _ _ refl refl) (λ e. reacts _ _ _ refl refl))
    server_kind Stop e = at_either (M.server_stop m.client m.server m.number) (as_kind Stop) (reacts _ _ (as_kind Stop) refl refl)
    server_kind Ts e = absurd (t≢f refl e)
    server_kind Ack e = absurd (t≢f refl e)
    server_kind Value e = absurd (t≢f refl e)

    -- a message to a server
    pub server_handed : (kind : Kind) → from_server kind ≡ false → kind_of m.kind ≡ Some kind →
        M.handed K (shown σ h) (map meaning rest) (meaning m) ≡ shown (with_server σ m.server (at_server K σ m).after (rest ++ (at_server K σ m).sent)) h
    server_handed kind e q =
        subst (λ o. Reacts (M.handed K (shown σ h) (map meaning rest) (meant o m))
        (cond (σ.faulty m.server) (W.ignored K.rules.above K.lowest K.initial (σ.servers m.server))
        (W.by_byte K.rules.above K.lowest K.initial o K.client_count (σ.servers m.server) m))) (sym q) (server_kind kind e)

    -- the message's client
    abbrev x : Client S V
    x = σ.clients m.client

    -- the machine is where an outcome at the message's client leads, with its events
    abbrev Gives : M.State S V → Outcome S V → Type 0
    Gives τ o = (es : List (M.Event S V)) × (τ ≡ shown (with_client σ m.client o.after (rest ++ o.sent)) (es ++ h)) × Tells m.client x o es

    -- a client that becomes what the outcome says, and sends what means the same
    gives : (o : Outcome S V) (ms : List (M.Msg S V)) (es : List (M.Event S V)) → ms ≡ map meaning o.sent → Tells m.client x o es →
        Gives (M.set_client (shown σ h) m.client (map meaning rest) o.after ms es) o
    gives o ms es q t = (
      es,
      λ i. record {
        faulty = σ.faulty;
        servers = σ.servers;
        clients = updated σ.clients m.client o.after;
        queue = sent_behind rest o.sent ms q i;
        history = es ++ h;
      },
      t,
    )

    -- the client leaves the message alone
    gives_unchanged : Gives (M.dropped (shown σ h) (map meaning rest)) (C.unchanged x)
    gives_unchanged = (
      [],
      λ i. record {
        faulty = σ.faulty;
        servers = σ.servers;
        clients = sym (updated_same σ.clients m.client) i;
        queue = map meaning (sym (append-nil rest) i);
        history = h;
      },
      tells_none m.client x (C.unchanged x) refl (λ t v acks a e. t≢f a (ap is_asking e)),
    )

    -- a quorum told its timestamps
    gives_chosen : (v : V) (o : Option S) → is_asking x.phase ≡ true → Gives (M.chosen K (shown σ h) m.client (map meaning rest) v o) (C.chosen K m.client x v o)
    gives_chosen v None a = gives (C.chosen K m.client x v None) [] _ refl (tells_spent m.client x (C.chosen K m.client x v None) x.number refl refl)
    gives_chosen v (Some t) a = gives (C.chosen K m.client x v (Some t)) _ _ (sym (map_to_all meaning K.rules.n _)) (tells_chose m.client x (C.chosen K m.client x v (Some t)) t v (λ b. false) refl a refl)

    -- TS of the open operation
    gives_ts : (ph : Phase S V) → x.phase ≡ ph → Gives (M.on_ts K (shown σ h) m.client m.server m.timestamp (map meaning rest) ph) (C.on_ts K x m ph)
    gives_ts idle e = gives_unchanged
    gives_ts (storing t v acks) e = gives_unchanged
    gives_ts (reading r) e = gives_unchanged
    gives_ts (asking v told t) e =
        by_both Gives (told m.server) _ _ _ _ (λ i. gives_unchanged)
        (λ i. by_both Gives (K.rules.quorum (updated told m.server true)) _ _ _ _ (λ j. gives_chosen v _ (ap is_asking e))
        (λ j. gives _ [] [] refl (tells_none m.client x _ refl (λ t v acks a e'. zero≢one cc))))

    -- ACK of the open operation
    gives_ack : (ph : Phase S V) → x.phase ≡ ph → Gives (M.on_ack K (shown σ h) m.client m.server m.timestamp (map meaning rest) ph) (C.on_ack K x m ph)
    gives_ack idle e = gives_unchanged
    gives_ack (asking v told t) e = gives_unchanged
    gives_ack (reading r) e = gives_unchanged
    gives_ack (storing t v acks) e =
        by_both Gives (level K.rules.above m.timestamp t) _ _ _ _
        (λ i. by_both Gives (K.rules.quorum (updated acks m.server true)) _ _ _ _ (λ j. gives _ [] _ refl (tells_write m.client x _ x.number t _ refl refl))
        (λ j. gives _ [] [] refl (tells_none m.client x _ refl (λ t v acks a e'. t≢f a (ap is_asking e)))))
        (λ i. gives_unchanged)

    -- the read goes on, or is finished
    gives_decided : (r : Reading S V) (o : Option (S × V)) → Gives (M.decided K (shown σ h) m.client (map meaning rest) r o) (C.decided K m.client x r o)
    gives_decided r None = gives (C.decided K m.client x r None) [] [] refl (tells_none m.client x (C.decided K m.client x r None) refl (λ t v acks a e'. zero≢one cc))
    gives_decided r (Some p) = gives (C.decided K m.client x r (Some p)) _ _ (sym (map_to_all meaning K.rules.n _)) (tells_read m.client x (C.decided K m.client x r (Some p)) x.number p.0 p.1 _ refl refl)

    -- VALUE of the open operation
    gives_value : (ph : Phase S V) → Gives (M.on_value K (shown σ h) m.client m.server m.timestamp m.value (map meaning rest) ph) (C.on_value K x m ph)
    gives_value idle = gives_unchanged
    gives_value (asking v told t) = gives_unchanged
    gives_value (storing t v acks) = gives_unchanged
    gives_value (reading r) = gives_decided _ _

    -- a message to a client, by its kind
    client_kind : (kind : Kind) → from_server kind ≡ true → Gives (M.handed K (shown σ h) (map meaning rest) (meant (Some kind) m)) (C.takes K kind x m)
    client_kind Ts e = by_both Gives (eqb m.number x.number) _ _ _ _ (λ i. gives_ts x.phase refl) (λ i. gives_unchanged)
    client_kind Ack e = by_both Gives (eqb m.number x.number) _ _ _ _ (λ i. gives_ack x.phase refl) (λ i. gives_unchanged)
    client_kind Value e = by_both Gives (eqb m.number x.number) _ _ _ _ (λ i. gives_value x.phase) (λ i. gives_unchanged)
    client_kind Query e = absurd (t≢f e refl)
    client_kind Store e = absurd (t≢f e refl)
    client_kind Read e = absurd (t≢f e refl)
    client_kind Stop e = absurd (t≢f e refl)

    -- a message to a client
    pub client_handed : (kind : Kind) → from_server kind ≡ true → kind_of m.kind ≡ Some kind → Gives (M.handed K (shown σ h) (map meaning rest) (meaning m)) (at_client K σ kind m)
    client_handed kind e q = subst (λ o. Gives (M.handed K (shown σ h) (map meaning rest) (meant o m)) (at_client K σ kind m)) (sym q) (client_kind kind e)
