-- What a client makes of a message: it turns on the setting's kinds alone, and is never a refusal. Assumes nothing.
use Rattle.std.proofs.Common.{◌≡◌, ℕ, true, cond, eqb, [], Some, None, Option, refl, ap, arith}
use Rattle.std.proofs.lemmas.Bool.{cond_both}
use Rattle.calls.specs.declared.Answer.TheVariants.{Taken, FinishedWrite, Refused}
use Rattle.calls.specs.declared.Refusal.{Refusal}
use Rattle.network.specs.declared.message.Kind.{Kind}
use Rattle.network.specs.declared.message.Kind.TheVariants.{Query, Ts, Store, Ack, Read, Value, Stop}
use Rattle.network.specs.declared.message.Message.{Message}
use Rattle.timestamps.specs.Laws.{higher}
use Rattle.reading.specs.Readings.{Reading, updated, level, heard, decide}
use Rattle.protocol.specs.Settings.{Setting, setting}
use Rattle.protocol.specs.Clients.{Phase, Client, Outcome, idle, asking, storing, reading, in_phase, unchanged, chosen, decided, on_ts, on_ack, on_value, awaited, takes}

module _ {S V : Type 0} (K : Setting S V) where
  -- the setting with no clients, messages or numbers
  abbrev pub plain : Setting S V
  plain = setting 0 0 0 K.rules K.owner K.lowest K.successor K.initial

  chosen_same : (c : ℕ) (x : Client S V) (v : V) (o : Option S) → chosen plain c x v o ≡ chosen K c x v o
  chosen_same c x v None = refl
  chosen_same c x v (Some t) = refl

  decided_same : (c : ℕ) (x : Client S V) (r : Reading S V) (o : Option (S × V)) → decided plain c x r o ≡ decided K c x r o
  decided_same c x r None = refl
  decided_same c x r (Some p) = refl

  on_ts_same : (x : Client S V) (m : Message S V) (f : Phase S V) → on_ts plain x m f ≡ on_ts K x m f
  on_ts_same x m idle = refl
  on_ts_same x m (storing t v acks) = refl
  on_ts_same x m (reading r) = refl
  on_ts_same x m (asking v told t) =
      let now = updated told m.server true in
      let top = higher K.rules.above t m.timestamp in
      ap (λ o. cond (told m.server) (unchanged x) (cond (K.rules.quorum now) o (record { after = in_phase x (asking v now top); answer = Taken; sent = [] })))
      (chosen_same m.client x v (K.successor m.client top x.last))

  on_ack_same : (x : Client S V) (m : Message S V) (f : Phase S V) → on_ack plain x m f ≡ on_ack K x m f
  on_ack_same x m idle = refl
  on_ack_same x m (asking v told t) = refl
  on_ack_same x m (reading r) = refl
  on_ack_same x m (storing t v acks) = refl

  on_value_same : (x : Client S V) (m : Message S V) (f : Phase S V) → on_value plain x m f ≡ on_value K x m f
  on_value_same x m idle = refl
  on_value_same x m (asking v told t) = refl
  on_value_same x m (storing t v acks) = refl
  on_value_same x m (reading r) =
      let r' = heard K.rules r m.server m.timestamp m.value in
      decided_same m.client x r' (decide K.rules r' r'.watched)

  awaited_same : (kind : Kind) (x : Client S V) (m : Message S V) → awaited plain kind x m ≡ awaited K kind x m
  awaited_same Ts x m = on_ts_same x m x.phase
  awaited_same Ack x m = on_ack_same x m x.phase
  awaited_same Value x m = on_value_same x m x.phase
  awaited_same Query x m = refl
  awaited_same Store x m = refl
  awaited_same Read x m = refl
  awaited_same Stop x m = refl

  pub takes_same : (kind : Kind) (x : Client S V) (m : Message S V) → takes plain kind x m ≡ takes K kind x m
  takes_same kind x m = ap (λ o. cond (eqb m.number x.number) o (unchanged x)) (awaited_same kind x m)

  -- an outcome that is no refusal
  abbrev pub Unrefused : Outcome S V → Type 0
  Unrefused o = (e : Refusal) → o.answer ≡ Refused e → ⊥

  unchanged_not : (x : Client S V) → Unrefused (unchanged x)
  unchanged_not x e is = let z : ◌≡◌ {A = ℕ} 0 1 = cc in omega arith

  chosen_not : (c : ℕ) (x : Client S V) (v : V) (o : Option S) → Unrefused (chosen K c x v o)
  chosen_not c x v None e is = let z : ◌≡◌ {A = ℕ} 0 1 = cc in omega arith
  chosen_not c x v (Some t) e is = let z : ◌≡◌ {A = ℕ} 0 1 = cc in omega arith

  decided_not : (c : ℕ) (x : Client S V) (r : Reading S V) (o : Option (S × V)) → Unrefused (decided K c x r o)
  decided_not c x r None e is = let z : ◌≡◌ {A = ℕ} 0 1 = cc in omega arith
  decided_not c x r (Some p) e is = let z : ◌≡◌ {A = ℕ} 0 1 = cc in omega arith

  on_ts_not : (x : Client S V) (m : Message S V) (f : Phase S V) → Unrefused (on_ts K x m f)
  on_ts_not x m idle = unchanged_not x
  on_ts_not x m (storing t v acks) = unchanged_not x
  on_ts_not x m (reading r) = unchanged_not x
  on_ts_not x m (asking v told t) =
      let now = updated told m.server true in
      let top = higher K.rules.above t m.timestamp in
      let on : Outcome S V = record { after = in_phase x (asking v now top); answer = Taken; sent = [] } in
      let picked : Outcome S V = chosen K m.client x v (K.successor m.client top x.last) in
      cond_both (told m.server) (unchanged x) (cond (K.rules.quorum now) picked on) Unrefused (λ _. unchanged_not x)
      (λ _. cond_both (K.rules.quorum now) picked on Unrefused (λ _. chosen_not m.client x v (K.successor m.client top x.last))
      (λ _ e is. let z : ◌≡◌ {A = ℕ} 0 1 = cc in omega arith))

  on_ack_not : (x : Client S V) (m : Message S V) (f : Phase S V) → Unrefused (on_ack K x m f)
  on_ack_not x m idle = unchanged_not x
  on_ack_not x m (asking v told t) = unchanged_not x
  on_ack_not x m (reading r) = unchanged_not x
  on_ack_not x m (storing t v acks) =
      let now = updated acks m.server true in
      let done : Outcome S V = record { after = in_phase x idle; answer = FinishedWrite m.client x.number t; sent = [] } in
      let on : Outcome S V = record { after = in_phase x (storing t v now); answer = Taken; sent = [] } in
      cond_both (level K.rules.above m.timestamp t) (cond (K.rules.quorum now) done on) (unchanged x) Unrefused
      (λ _. cond_both (K.rules.quorum now) done on Unrefused (λ _ e is. let z : ◌≡◌ {A = ℕ} 0 1 = cc in omega arith)
      (λ _ e is. let z : ◌≡◌ {A = ℕ} 0 1 = cc in omega arith))
      (λ _. unchanged_not x)

  on_value_not : (x : Client S V) (m : Message S V) (f : Phase S V) → Unrefused (on_value K x m f)
  on_value_not x m idle = unchanged_not x
  on_value_not x m (asking v told t) = unchanged_not x
  on_value_not x m (storing t v acks) = unchanged_not x
  on_value_not x m (reading r) =
      let r' = heard K.rules r m.server m.timestamp m.value in
      decided_not m.client x r' (decide K.rules r' r'.watched)

  awaited_not : (kind : Kind) (x : Client S V) (m : Message S V) → Unrefused (awaited K kind x m)
  awaited_not Ts x m = on_ts_not x m x.phase
  awaited_not Ack x m = on_ack_not x m x.phase
  awaited_not Value x m = on_value_not x m x.phase
  awaited_not Query x m = unchanged_not x
  awaited_not Store x m = unchanged_not x
  awaited_not Read x m = unchanged_not x
  awaited_not Stop x m = unchanged_not x

  -- what a client makes of a message is never a refusal
  pub takes_not : (kind : Kind) (x : Client S V) (m : Message S V) → Unrefused (takes K kind x m)
  takes_not kind x m =
      cond_both (eqb m.number x.number) (awaited K kind x m) (unchanged x) Unrefused (λ _. awaited_not kind x m) (λ _. unchanged_not x)
