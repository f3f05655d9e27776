-- The machine follows the protocol: for each call that is not refused it makes one of its own.
use Rattle.std.proofs.Common.{◌≡◌, ℕ, zero, suc, ◌≤◌, Bool, true, false, cond, not, ◌&&◌, ltb, leb, ◌⊎◌, List, [], ◌∷◌, ◌++◌, map, length, Some, None, Option, sym, refl, ap, ◌∙◌, subst, inl, inr, arith, lt→ltb, length-append}
use lib.ListN.{length-map}
use Rattle.calls.specs.declared.Refusal.{Refusal}
use Rattle.calls.specs.declared.Refusal.TheVariants.{Memory, NetworkFull, NoMessage}
use Rattle.calls.specs.Refusals.{Check, first_failed}
use Rattle.calls.specs.declared.Call.{Call}
use Rattle.calls.specs.declared.Call.TheVariants.{Write, Deliver, Turn, Forge}
use Rattle.calls.specs.declared.Answer.TheVariants.{Begun}
use Rattle.network.specs.Kinds.{kind_of}
use Rattle.network.specs.declared.message.Kind.{Kind}
use Rattle.network.specs.declared.message.Kind.TheVariants.{Query, Ts, Store, Ack, Value, Stop}
use Rattle.network.specs.declared.message.Message.{Message}
use Rattle.reading.specs.Readings.{updated}
use Rattle.protocol.specs.Settings.{Setting}
use Rattle.protocol.specs.Clients as C
use Rattle.protocol.specs.Clients.{storing, Client, Outcome, is_idle}
use Rattle.protocol.specs.Protocol as P
use Rattle.protocol.specs.Protocol.{State, Reply, with_client, from_server, may_be_sent, lift, overfull, refused, unless}
use Rattle.protocol.specs.Runs.{In, Step, is_asking, BeganWrite, BeganRead, Chose, EndedWrite, EndedRead}
use Rattle.machine.proofs.Machine as M
use Rattle.machine.proofs.Base.{zero≢one, t≢f, by_cond, All, updated_elim, updated_at, gt_of, true_of, not-false, and_both}
use Rattle.machine.proofs.Meaning.{map_to_all, length-to_all, map-place, lift_map, meaning, meant, meaning_server, meaning_client, shown, sent_behind, has_room, step_is}
use Rattle.machine.proofs.Delivers.{plain, Tells, in_one, server_handed, client_handed}

-- the events of a step
pub record Records {S V : Type 0} (s : Step S V) (es : List (M.Event S V)) : Type 0 where
  pub began_write : (c k : ℕ) (v : V) → BeganWrite c k v s → es ≡ (M.begun c k (Some v) ∷ [])
  pub began_read : (c k : ℕ) → BeganRead c k s → es ≡ (M.begun c k None ∷ [])
  pub chosen : (c k : ℕ) (t : S) (v : V) → Chose c k t v s → es ≡ (M.chose c k t v ∷ [])
  pub ended_write : (c k : ℕ) (t : S) → EndedWrite c k t s → (q : ℕ → Bool) × (es ≡ (M.finished c k t None q ∷ []))
  pub ended_read : (c k : ℕ) (t : S) (v : V) → EndedRead c k t v s → (q : ℕ → Bool) × (es ≡ (M.finished c k t (Some v) q ∷ []))
  pub from_begun : (c k : ℕ) (v : V) → In (M.begun c k (Some v)) es → BeganWrite c k v s
  pub from_begun_read : (c k : ℕ) → In (M.begun c k None) es → BeganRead c k s
  pub from_chose : (c k : ℕ) (t : S) (v : V) → In (M.chose c k t v) es → Chose c k t v s

module _ {S V : Type 0} where
  -- a step of which nothing is told
  records_none : (s : Step S V) → plain s.answer ≡ true → ((c : ℕ) → (s.after.clients c).phase ≡ (s.before.clients c).phase) → Records s []
  records_none s p f = record {
    began_write = λ c k v b. absurd (t≢f p (ap plain b.1));
    began_read = λ c k b. absurd (t≢f p (ap plain b.1));
    chosen = λ c k t v b. absurd (t≢f b.was_asking (ap is_asking (sym (f c) ∙ b.is_storing)));
    ended_write = λ c k t b. absurd (t≢f p (ap plain b));
    ended_read = λ c k t v b. absurd (t≢f p (ap plain b));
    from_begun = λ c k v i. elim i [ ];
    from_begun_read = λ c k i. elim i [ ];
    from_chose = λ c k t v i. elim i [ ];
  }

  -- a write begins
  records_write : (s : Step S V) (c k : ℕ) (v : V) → s.call ≡ Write c v → s.answer ≡ Begun c k → Records s (M.begun c k (Some v) ∷ [])
  records_write s c k v e a = record {
    began_write = λ d j u b. let b0 = b.0 in let b1 = b.1 in cc;
    began_read = λ d j b. let b0 = b.0 in absurd (zero≢one cc);
    chosen = λ d j t u b. let b0 = b.by_delivery in absurd (zero≢one cc);
    ended_write = λ d j t b. absurd (zero≢one cc);
    ended_read = λ d j t u b. absurd (zero≢one cc);
    from_begun = λ d j u i. let e' = in_one i in (cc, cc);
    from_begun_read = λ d j i. let e' = in_one i in absurd (zero≢one cc);
    from_chose = λ d j t u i. let e' = in_one i in absurd (zero≢one cc);
  }

  -- a read begins
  records_read : (s : Step S V) (c k : ℕ) → s.call ≡ Call.Read c → s.answer ≡ Begun c k → Records s (M.begun c k None ∷ [])
  records_read s c k e a = record {
    began_write = λ d j u b. let b0 = b.0 in absurd (zero≢one cc);
    began_read = λ d j b. let b0 = b.0 in let b1 = b.1 in cc;
    chosen = λ d j t u b. let b0 = b.by_delivery in absurd (zero≢one cc);
    ended_write = λ d j t b. absurd (zero≢one cc);
    ended_read = λ d j t u b. absurd (zero≢one cc);
    from_begun = λ d j u i. let e' = in_one i in absurd (zero≢one cc);
    from_begun_read = λ d j i. let e' = in_one i in (cc, cc);
    from_chose = λ d j t u i. let e' = in_one i in absurd (zero≢one cc);
  }

  -- a message is delivered to client c
  records_client : (σ : State S V) (place c : ℕ) (o : Outcome S V) (queue : List (Message S V)) (es : List (M.Event S V)) → Tells c (σ.clients c) o es →
      Records (record { before = σ; call = Deliver place; answer = o.answer; after = with_client σ c o.after queue }) es
  records_client σ place c o queue es t = record {
    began_write = λ d k v b. absurd (t.begun_not d k b.1);
    began_read = λ d k b. absurd (t.begun_not d k b.1);
    chosen = λ d k s v b. chose_at d k s v b.acks b.was_asking b.number_is b.is_storing;
    ended_write = t.ended_write;
    ended_read = t.ended_read;
    from_begun = λ d k v i. absurd (t.no_begun d k (Some v) i);
    from_begun_read = λ d k i. absurd (t.no_begun d k None i);
    from_chose = λ d k s v i. chose_from d k s v (t.from_chose d k s v i);
  }
    where
      chose_at : (d k : ℕ) (s : S) (v : V) (acks : ℕ → Bool) → is_asking (σ.clients d).phase ≡ true → (updated σ.clients c o.after d).number ≡ k → (updated σ.clients c o.after d).phase ≡ storing s v acks →
          es ≡ (M.chose d k s v ∷ [])
      chose_at d k s v acks a = updated_elim (λ (x : Client S V). x.number ≡ k → x.phase ≡ storing s v acks → es ≡ (M.chose d k s v ∷ [])) σ.clients c o.after d
          (λ e n p. let r = t.chosen s v acks (subst (λ j. is_asking (σ.clients j).phase ≡ true) (sym e) a) p in cc)
          (λ n p. absurd (t≢f a (ap is_asking p)))

      chose_from : (d k : ℕ) (s : S) (v : V) → ((acks : ℕ → Bool) × (d ≡ c) × (is_asking (σ.clients c).phase ≡ true) × (o.after.number ≡ k) × (o.after.phase ≡ storing s v acks)) →
          Chose d k s v (record { before = σ; call = Deliver place; answer = o.answer; after = with_client σ c o.after queue })
      chose_from d k s v (acks, e, a, n, p) = subst (λ j. Chose j k s v (record { before = σ; call = Deliver place; answer = o.answer; after = with_client σ c o.after queue })) (sym e) (record {
        place = place;
        by_delivery = refl;
        was_asking = a;
        number_is = ap (λ (x : Client S V). x.number) (updated_at σ.clients c o.after) ∙ n;
        acks = acks;
        is_storing = ap (λ (x : Client S V). x.phase) (updated_at σ.clients c o.after) ∙ p;
      })

-- the list without an element is no longer
pub length-lift : {A : Type 0} (k : ℕ) (xs : List A) (p : A × List A) → lift k xs ≡ Some p → length p.1 ≤ length xs
length-lift k [] p e = absurd (zero≢one cc)
length-lift zero (x ∷ xs) p e = let q : p.1 ≡ xs = cc in let l : length p.1 ≡ length xs = ap length q in omega arith
length-lift {A} (suc k) (x ∷ xs) p e = go (lift k xs) refl e (λ q i. length-lift k xs q i)
  where
    go : (o : Option (A × List A)) → lift k xs ≡ o → P.lifted x o ≡ Some p → ((q : A × List A) → lift k xs ≡ Some q → length q.1 ≤ length xs) → length p.1 ≤ suc (length xs)
    go None i e f = absurd (zero≢one cc)
    go (Some q) i e f = let j : p.1 ≡ (x ∷ q.1) = cc in let l : length p.1 ≡ suc (length q.1) = ap length j in let n = f q i in omega arith

module _ {S V : Type 0} (K : Setting S V) where
  -- what the machine makes of a call with its reply: nothing, or the step of a call of its own, with these events
  pub record Followed (σ : State S V) (h : List (M.Event S V)) (call : Call S V) (r : Reply S V) : Type 0 where
    pub events : List (M.Event S V)
    pub reaches : (shown r.state (events ++ h) ≡ shown σ h) ⊎ ((own : M.Call S V) × (M.step K (shown σ h) own ≡ shown r.state (events ++ h)))
    pub records : Records (record { before = σ; call = call; answer = r.answer; after = r.state }) events

  module _ (σ : State S V) (h : List (M.Event S V)) where
    -- nothing is made of a call that is refused
    follows_refused : (call : Call S V) (e : Refusal) → Followed σ h call (refused σ e)
    follows_refused call e = record { events = []; reaches = inl refl; records = records_none _ refl (λ c. refl) }

    -- some check fails, or none does
    checked : (call : Call S V) (cs : List Check) (r : Reply S V) → (All (λ (c : Check). c.0 ≡ false) cs → Followed σ h call r) → Followed σ h call (unless (first_failed cs) σ r)
    checked call [] r f = f tt
    checked call (c ∷ cs) r f = go c.0 refl (λ e. checked call cs r (λ a. f (e, a)))
      where
        go : (t : Bool) → c.0 ≡ t → (c.0 ≡ false → Followed σ h call (unless (first_failed cs) σ r)) → Followed σ h call (unless (cond t (Some c.1) (first_failed cs)) σ r)
        go true e g = follows_refused call c.1
        go false e g = g e

    module _ (room : length σ.queue ≤ K.capacity) where
      -- what is not overfull fits
      fits : (rest sent : List (Message S V)) → length rest ≤ K.capacity → overfull K (length rest) (length sent) ≡ false → length (map meaning (rest ++ sent)) ≤ K.capacity
      fits rest sent l e =
          let a = length-map (rest ++ sent) meaning in
          let b = length-append rest sent in
          let c = has_room K (length rest) (length sent) l e in
          omega arith

      -- an operation begins
      begins : (call : Call S V) (own : M.Call S V) (c : ℕ) (o : Outcome S V) (ms : List (M.Msg S V)) (es : List (M.Event S V)) →
          M.made K (shown σ h) own ≡ cond (M.free K (shown σ h) c) (M.set_client (shown σ h) c (map meaning σ.queue) o.after ms es) (shown σ h) →
          ms ≡ map meaning o.sent → length o.sent ≡ K.rules.n →
          Records (record { before = σ; call = call; answer = o.answer; after = with_client σ c o.after (σ.queue ++ o.sent) }) es → Followed σ h call (P.begin K σ c o)
      begins call own c o ms es made e l r =
          checked call (P.begin_checks K σ c) (P.by_outcome K σ c σ.queue o) (λ a. record {
            events = es;
            reaches = inr (own, step_is K (shown σ h) _ own (made ∙ ap (λ t. cond t (M.set_client (shown σ h) c (map meaning σ.queue) o.after ms es) (shown σ h)) (is_free a.0 a.1.0 a.1.1.0) ∙ done) (fits σ.queue o.sent room (ap (overfull K (length σ.queue)) l ∙ a.1.1.1.0)));
            records = r;
          })
        where
          is_free : not (ltb c K.client_count) ≡ false → not (is_idle (σ.clients c).phase) ≡ false → leb K.most (σ.clients c).number ≡ false → M.free K (shown σ h) c ≡ true
          is_free i j k = and_both _ _ (not-false _ i) (and_both _ _ (not-false _ j) (true_of _ (lt→ltb _ _ (gt_of _ _ k))))

          done : M.set_client (shown σ h) c (map meaning σ.queue) o.after ms es ≡ shown (with_client σ c o.after (σ.queue ++ o.sent)) (es ++ h)
          done = λ i. record {
            faulty = σ.faulty;
            servers = σ.servers;
            clients = updated σ.clients c o.after;
            queue = sent_behind σ.queue o.sent ms e i;
            history = es ++ h;
          }

      -- a message is taken from the queue
      module _ (place : ℕ) (p : Message S V × List (Message S V)) (at : lift place σ.queue ≡ Some p) where
        -- what the machine makes of the delivery
        made_deliver : P.named K p.0 ≡ true → M.made K (shown σ h) (M.deliver place) ≡ M.handed K (shown σ h) (map meaning p.1) (meaning p.0)
        made_deliver e =
            ap (M.taken K (shown σ h)) (lift_map meaning place σ.queue ∙ ap (map-place meaning) at)
            ∙ ap (λ j. cond (ltb j K.client_count && ltb (M.server_of (meaning p.0)) K.rules.n) (M.handed K (shown σ h) (map meaning p.1) (meaning p.0)) (shown σ h)) (meaning_client p.0)
            ∙ ap (λ j. cond (ltb p.0.client K.client_count && ltb j K.rules.n) (M.handed K (shown σ h) (map meaning p.1) (meaning p.0)) (shown σ h)) (meaning_server p.0)
            ∙ ap (λ t. cond t (M.handed K (shown σ h) (map meaning p.1) (meaning p.0)) (shown σ h)) e

        -- the other messages fit
        rest_fits : length p.1 ≤ K.capacity
        rest_fits = let a = length-lift place σ.queue p at in omega arith

        -- the message is handed to its client or its server
        follows_handed : (kind : Kind) → kind_of p.0.kind ≡ Some kind → P.named K p.0 ≡ true → Followed σ h (Deliver place) (P.handed K σ p.1 p.0 kind)
        follows_handed kind q n =
            by_cond (Followed σ h (Deliver place)) (from_server kind) _ _
            (λ f. by_cond (Followed σ h (Deliver place)) (overfull K (length p.1) (length (P.at_client K σ kind p.0).sent)) _ _ (λ g. follows_refused (Deliver place) NetworkFull)
            (λ g. let r = client_handed K σ h p.1 p.0 kind f q in record {
              events = r.0;
              reaches = inr (M.deliver place, step_is K (shown σ h) _ (M.deliver place) (made_deliver n ∙ r.1) (fits p.1 _ rest_fits g));
              records = records_client σ place p.0.client _ _ r.0 r.2;
            }))
            (λ f. by_cond (Followed σ h (Deliver place)) (overfull K (length p.1) (length (P.at_server K σ p.0).sent)) _ _ (λ g. follows_refused (Deliver place) NetworkFull)
            (λ g. record {
              events = [];
              reaches = inr (M.deliver place, step_is K (shown σ h) _ (M.deliver place) (made_deliver n ∙ server_handed K σ h p.1 p.0 kind f q) (fits p.1 _ rest_fits g));
              records = records_none _ refl (λ c. refl);
            }))

        -- the message has a kind, or none
        follows_taken : (o : Option Kind) → kind_of p.0.kind ≡ o → Followed σ h (Deliver place) (P.taken K σ p.1 p.0 o)
        follows_taken None q = follows_refused (Deliver place) Memory
        follows_taken (Some kind) q = by_cond (Followed σ h (Deliver place)) (P.named K p.0) _ _ (follows_handed kind q) (λ n. follows_refused (Deliver place) Memory)

      -- there is a message at the place, or none
      follows_delivered : (place : ℕ) (o : Option (Message S V × List (Message S V))) → lift place σ.queue ≡ o → Followed σ h (Deliver place) (P.delivered K σ o)
      follows_delivered place None at = follows_refused (Deliver place) NoMessage
      follows_delivered place (Some p) at = follows_taken place p at (kind_of p.0.kind) refl

      -- a server turns faulty
      follows_turn : (b : ℕ) → Followed σ h (Turn b) (P.step K σ (Turn b))
      follows_turn b =
          checked (Turn b) (P.turn_checks K σ b) (P.turned K σ b) (λ a. record {
            events = [];
            reaches = inr (
              M.turn b,
              step_is K (shown σ h) (M.turned (shown σ h) b) (M.turn b)
                  (ap (λ t. cond t (M.turned (shown σ h) b) (shown σ h)) (and_both (ltb b K.rules.n) _ (not-false _ a.0) (not-false _ a.1.0)))
                  (let l = length-map σ.queue (meaning {S = S} {V = V}) in omega arith),
            );
            records = records_none _ refl (λ c. refl);
          })

      -- a message that a faulty server may send
      may_forge : (m : Message S V) (o : Option Kind) → ltb m.client K.client_count ≡ true → σ.faulty m.server ≡ true → may_be_sent o ≡ true → M.may_forge K (shown σ h) (meant o m) ≡ true
      may_forge m None i j e = absurd (t≢f e refl)
      may_forge m (Some Ts) i j e = and_both _ _ i j
      may_forge m (Some Ack) i j e = and_both _ _ i j
      may_forge m (Some Value) i j e = and_both _ _ i j
      may_forge m (Some Query) i j e = absurd (t≢f e refl)
      may_forge m (Some Store) i j e = absurd (t≢f e refl)
      may_forge m (Some Kind.Read) i j e = absurd (t≢f e refl)
      may_forge m (Some Stop) i j e = absurd (t≢f e refl)

      -- a message is forged
      follows_forge : (call : Call S V) (m : Message S V) → Followed σ h call (unless (first_failed (P.forge_checks K σ m)) σ (P.forged K σ m))
      follows_forge call m =
          checked call (P.forge_checks K σ m) (P.forged K σ m) (λ a. record {
            events = [];
            reaches = inr (
              M.forge (meaning m),
              step_is K (shown σ h) _ (M.forge (meaning m))
                  (ap (λ t. cond t (M.forged (shown σ h) (meaning m)) (shown σ h)) (may_forge m (kind_of m.kind) (not-false _ a.1.0) (not-false _ a.1.1.0) (not-false _ a.1.1.1.0)) ∙ done) (fits σ.queue (m ∷ []) room a.1.1.1.1.0),
            );
            records = records_none _ refl (λ c. refl);
          })
        where
          done : M.forged (shown σ h) (meaning m) ≡ shown (P.forged K σ m).state h
          done = λ i. record {
            faulty = σ.faulty;
            servers = σ.servers;
            clients = σ.clients;
            queue = sent_behind σ.queue (m ∷ []) (meaning m ∷ []) refl i;
            history = h;
          }

      -- the machine follows each call
      pub follows : (call : Call S V) → Followed σ h call (P.step K σ call)
      follows (Write c v) =
          begins (Write c v) (M.write c v) c (C.begins_write K c (σ.clients c) v) _ _ refl (sym (map_to_all meaning K.rules.n _)) (length-to_all K.rules.n _)
          (records_write _ c (suc (σ.clients c).number) v refl refl)
      follows (Call.Read c) =
          begins (Call.Read c) (M.Call.read c) c (C.begins_read K c (σ.clients c)) _ _ refl (sym (map_to_all meaning K.rules.n _)) (length-to_all K.rules.n _)
          (records_read _ c (suc (σ.clients c).number) refl refl)
      follows (Deliver place) = follows_delivered place (lift place σ.queue) refl
      follows (Turn b) = follows_turn b
      follows (Forge b c kind k t v) = follows_forge (Forge b c kind k t v) (P.message_of b c kind k t v)
