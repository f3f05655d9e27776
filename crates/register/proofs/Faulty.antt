-- Calls on faulty servers. Assumes nothing.
use Rattle.std.proofs.Common.{◌≡◌, ℕ, ◌+◌, ◌-◌, ◌<◌, ◌≤◌, true, false, cond, not, ◌&&◌, ◌||◌, eqb, ltb, List, [], ◌∷◌, length, take, set, Some, None, Option, sym, refl, ap, ◌∙◌, subst, inl, inr, arith}
use Rattle.std.proofs.lemmas.Bool.{cases_lt, le-ltb, ltb-true, ltb-false, not-false}
use Rattle.calls.specs.Refusals.{Check, first_failed}
use Rattle.calls.proofs.Checks.{passes_first}
use Rattle.calls.specs.declared.Answer.TheVariants.{Refused, Turned, Forged}
use Rattle.calls.specs.declared.Refusal.{Refusal}
use Rattle.calls.specs.declared.Refusal.TheVariants.{NoClient, NoServer, NetworkFull, NotFailProne, ServerCorrect, NotServerKind}
use Rattle.std.proofs.lemmas.List.{length-take-le, length-set, take_more_set, drop-set-lt}
use Rattle.network.specs.Kinds.{kind_of}
use Rattle.network.specs.declared.message.Message.{Message}
use Rattle.quorums.specs.Sets.{members}
use Rattle.quorums.specs.declared.sets.ServerSet.{ServerSet}
use Rattle.reading.specs.Readings.{updated}
use Rattle.client.proofs.Counting.{with_updated}
use Rattle.protocol.specs.Settings.{Setting}
use Rattle.protocol.specs.Protocol.{Reply, turn_checks, turned, forge_checks, forged, may_be_sent, unless}
use Rattle.delivery.specs.Memory.{Lent, lent, enough}
use Rattle.register.specs.declared.record.Register.{Register}
use Rattle.register.specs.Calling.{with_queue, state_of, Replied}
use Rattle.register.specs.Faults.{turn_refusal, forge_refusal}
use Rattle.register.proofs.Enough.{parts, still_enough}
use Rattle.register.proofs.Replies.{rest_same, accepted, refusing}

module _ {Q S V : Type 0} (K : Setting S V) (g : Register Q) (x : Lent S V) (much : enough K g.len x ≡ true) (b : ℕ) (f : ServerSet) (few : K.rules.n ≤ 16)
    (each : (i : ℕ) → members f i ≡ (members g.faulty i || (eqb i b && ltb b 16))) where
  -- the checks over the record are those of the protocol
  turn_same : turn_refusal K.rules.n K.rules.fail_prone b f ≡ first_failed (turn_checks K (state_of K g x) b)
  turn_same = elim (cases_lt b K.rules.n) [
    | inl inside ↦
        ap (λ s. first_failed ((not (ltb b K.rules.n), NoServer) ∷ ((not (K.rules.fail_prone s), NotFailProne) ∷ [])))
        (with_updated (members g.faulty) (members f) b (omega arith) each)
    | inr outside ↦
        let t : ltb b K.rules.n ≡ false = le-ltb b K.rules.n outside in
        ap (λ z. cond (not z) (Some NoServer) (cond (not (K.rules.fail_prone (members f))) (Some NotFailProne) None)) t
        ∙ sym (ap (λ z. cond (not z) (Some NoServer) (cond (not (K.rules.fail_prone (updated (members g.faulty) b true))) (Some NotFailProne) None)) t)
  ]

  -- a turn that is refused
  pub turn_refused : (e : Refusal) → turn_refusal K.rules.n K.rules.fail_prone b f ≡ Some e
      → Replied K g x (unless (first_failed (turn_checks K (state_of K g x) b)) (state_of K g x) (turned K (state_of K g x) b)) (Refused e) g x
  turn_refused e is =
      let P : Option Refusal → Type 0 = λ o. Replied K g x (unless o (state_of K g x) (turned K (state_of K g x) b)) (Refused e) g x in
      subst P (sym is ∙ turn_same) (refusing K g x e much)

  -- a turn that is accepted
  pub turn_accepted : turn_refusal K.rules.n K.rules.fail_prone b f ≡ None
      → Replied K g x (unless (first_failed (turn_checks K (state_of K g x) b)) (state_of K g x) (turned K (state_of K g x) b)) Turned (with_queue g g.len f) x
  turn_accepted is =
      let inside = ltb-true b K.rules.n (not-false (ltb b K.rules.n) (passes_first (not (ltb b K.rules.n)) NoServer ((not (K.rules.fail_prone (members f)), NotFailProne) ∷ []) is).0) in
      let P : Option Refusal → Type 0 = λ o. Replied K g x (unless o (state_of K g x) (turned K (state_of K g x) b)) Turned (with_queue g g.len f) x in
      let same = with_updated (members g.faulty) (members f) b (omega arith) each in
      subst P (sym is ∙ turn_same)
      (accepted K g x (turned K (state_of K g x) b) Turned (with_queue g g.len f) x much
      (record {
        answer_is = refl;
        state_after = ap (λ s. record { faulty = s; servers = (state_of K g x).servers; clients = (state_of K g x).clients; queue = (state_of K g x).queue }) same;
        enough_after = much;
        rest_after = rest_same K g.len x;
        refused_kept = λ e clash. let z : ◌≡◌ {A = ℕ} 0 1 = cc in absurd (omega arith);
      }) refl)

module _ {Q S V : Type 0} (K : Setting S V) (g : Register Q) (x : Lent S V) (much : enough K g.len x ≡ true) (m : Message S V) where
  -- the queue is as long as the record says
  queue_long : length (take g.len x.messages) ≡ g.len
  queue_long = let p = parts K g.len x much in length-take-le g.len x.messages (omega arith)

  -- the checks over the record are those of the protocol
  forge_same : forge_refusal K.rules.n K.client_count K.capacity g.len g.faulty m.server m.client m.kind ≡ first_failed (forge_checks K (state_of K g x) m)
  forge_same =
      ap (λ k. forge_refusal K.rules.n K.client_count K.capacity k g.faulty m.server m.client m.kind) (sym queue_long)

  -- what the protocol replies
  abbrev forge_reply : Option Refusal → Reply S V
  forge_reply o = unless o (state_of K g x) (forged K (state_of K g x) m)

  -- a forged message that is refused
  pub forge_refused : (e : Refusal) → forge_refusal K.rules.n K.client_count K.capacity g.len g.faulty m.server m.client m.kind ≡ Some e
      → Replied K g x (forge_reply (first_failed (forge_checks K (state_of K g x) m))) (Refused e) g x
  forge_refused e is =
      let P : Option Refusal → Type 0 = λ o. Replied K g x (forge_reply o) (Refused e) g x in
      subst P (sym is ∙ forge_same) (refusing K g x e much)

  -- the memory with the message behind the others
  abbrev pub posted : Lent S V
  posted = lent x.servers x.clients x.listeners (set x.messages g.len m) x.reports

  -- there is room for it
  pub forge_room : forge_refusal K.rules.n K.client_count K.capacity g.len g.faulty m.server m.client m.kind ≡ None → g.len < K.capacity
  forge_room is =
      let full : List Check = (ltb (K.capacity - g.len) 1, NetworkFull) ∷ [] in
      let kinds : List Check = (not (may_be_sent (kind_of m.kind)), NotServerKind) ∷ full in
      let turns : List Check = (not (members g.faulty m.server), ServerCorrect) ∷ kinds in
      let a = passes_first (not (ltb m.server K.rules.n)) NoServer ((not (ltb m.client K.client_count), NoClient) ∷ turns) is in
      let b = passes_first (not (ltb m.client K.client_count)) NoClient turns a.1 in
      let c = passes_first (not (members g.faulty m.server)) ServerCorrect kinds b.1 in
      let d = passes_first (not (may_be_sent (kind_of m.kind))) NotServerKind full c.1 in
      let e = passes_first (ltb (K.capacity - g.len) 1) NetworkFull [] d.1 in
      let f = ltb-false (K.capacity - g.len) 1 e.0 in
      omega arith

  -- a forged message that is sent
  sent_reply : forge_refusal K.rules.n K.client_count K.capacity g.len g.faulty m.server m.client m.kind ≡ None
      → Replied K g x (forge_reply (first_failed (forge_checks K (state_of K g x) m))) Forged (with_queue g (g.len + 1) g.faulty) posted
  sent_reply is =
      let room = forge_room is in
      let P : Option Refusal → Type 0 = λ o. Replied K g x (forge_reply o) Forged (with_queue g (g.len + 1) g.faulty) posted in
      let p = parts K g.len x much in
      let σ = state_of K g x in
      subst P (sym is ∙ forge_same)
      (accepted K g x (forged K σ m) Forged (with_queue g (g.len + 1) g.faulty) posted much
      (record {
        answer_is = refl;
        state_after = ap (λ q. record { faulty = σ.faulty; servers = σ.servers; clients = σ.clients; queue = q }) (take_more_set x.messages g.len m (omega arith));
        enough_after = still_enough K g.len x much (g.len + 1) posted (omega arith)
            (ap (λ k. record { servers = length x.servers; clients = length x.clients; listeners = length x.listeners; messages = k; reports = length x.reports }) (length-set x.messages g.len m));
        rest_after = record {
          servers_rest = refl;
          clients_rest = refl;
          listeners_rest = refl;
          messages_rest = drop-set-lt (g.len + 1) x.messages g.len m (omega arith);
          reports_rest = refl;
        };
        refused_kept = λ e clash. let z : ◌≡◌ {A = ℕ} 0 1 = cc in absurd (omega arith);
      }) refl)

  pub forge_accepted : (g' : Register Q) (ms : List (Message S V)) → g' ≡ with_queue g (g.len + 1) g.faulty → ms ≡ set x.messages g.len m
      → forge_refusal K.rules.n K.client_count K.capacity g.len g.faulty m.server m.client m.kind ≡ None
      → Replied K g x (forge_reply (first_failed (forge_checks K (state_of K g x) m))) Forged g' (lent x.servers x.clients x.listeners ms x.reports)
  forge_accepted g' ms same written is =
      let P : Register Q → List (Message S V) → Type 0 = λ h l.
      Replied K g x (forge_reply (first_failed (forge_checks K (state_of K g x) m))) Forged h (lent x.servers x.clients x.listeners l x.reports) in
      subst (λ h. P h ms) (sym same) (subst (λ l. P (with_queue g (g.len + 1) g.faulty) l) (sym written) (sent_reply is))
