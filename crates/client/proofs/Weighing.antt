-- What a client makes of a message, weighed against the room there is. Assumes nothing.
use Rattle.std.proofs.Common.{◌≡◌, ℕ, zero, suc, ◌<◌, ◌≤◌, true, cond, List, [], ◌∷◌, length, is_some, Some, None, Ok, Err, Option, Result, sym, refl, ap, ◌∙◌, ap₂, arith}
use Rattle.std.proofs.lemmas.List.{length-append}
use Rattle.calls.specs.declared.Refusal.{Refusal}
use Rattle.network.specs.declared.message.Message.{Message}
use Rattle.reading.specs.Readings.{Reading, decide}
use Rattle.reading.specs.Reports.{Report, view}
use Rattle.reading.specs.Hearing.{Heard, after_value}
use Rattle.protocol.specs.Settings.{Setting}
use Rattle.network.specs.declared.message.Kind.TheVariants.{Stop}
use Rattle.protocol.specs.Clients as protocol
use Rattle.protocol.specs.Clients.{to_all, from_client, reading, decided, on_value}
use Rattle.client.specs.declared.state.Client.{Client}
use Rattle.client.specs.declared.state.Broadcast.{Broadcast}
use Rattle.client.specs.declared.state.Outcome.{Outcome}
use Rattle.client.specs.Showing.{client_of, messages_of, outcome_of}
use Rattle.client.specs.Taking.{sending, Fitting, Weighed, Weighs}

-- one message for each server
pub length-to_all : {A : Type 0} (n : ℕ) (f : ℕ → A) → length (to_all n f) ≡ n
length-to_all zero f = refl
length-to_all (suc n) f = length-append (to_all n f) (f n ∷ []) ∙ (let h = length-to_all n f in omega arith)

-- as many messages as are counted
pub length-messages : {S V : Type 0} (n c : ℕ) (x : Option (Broadcast S V)) → length (messages_of n c x) ≡ sending n x
length-messages n c None = refl
length-messages n c (Some x) = length-to_all n (λ b. from_client c b x.kind x.number x.timestamp x.value)

module _ {S V : Type 0} (K : Setting S V) where
  -- what comes of a decision does not turn on what the client knew
  decided_same : (c : ℕ) (x : Client S V) (known other r : Reading S V) (found : Option (S × V)) → decided K c (client_of x known) r found ≡ decided K c (client_of x other) r found
  decided_same c x known other r None = refl
  decided_same c x known other r (Some pair) = refl

  -- a decision that ends the read sends one message to each server, and one that does not sends none
  length-decided : (c : ℕ) (x : protocol.Client S V) (r : Reading S V) (found : Option (S × V)) → length (decided K c x r found).sent ≡ cond (is_some found) K.rules.n 0
  length-decided c x r None = refl
  length-decided c x r (Some pair) = length-to_all K.rules.n (λ b. from_client c b Stop x.number K.lowest K.initial)

module _ {S V : Type 0} (K : Setting S V) (d : S × V) (p : List (Report S V)) (m : Message S V) (room : ℕ) where
  -- an outcome that leaves the reports alone, weighed against the room
  pub weigh_fitting : (o : Outcome S V) (r : Result (Outcome S V) Refusal) → Fitting K.rules.n room o r
      → Weighs K d p m (outcome_of K.rules.n m.client o (view K.rules.above d K.rules.n p)) room r p
  weigh_fitting o (Ok r) fit = record {
    outcome_is = ap (λ z. outcome_of K.rules.n m.client z (view K.rules.above d K.rules.n p)) fit.0;
    fits = omega (arith, length-messages K.rules.n m.client o.broadcast, fit.1);
    rest_after = refl;
  }
  weigh_fitting o (Err refusal) fit = (fit.0, omega (arith, length-messages K.rules.n m.client o.broadcast, fit.1), refl)

  module _ (x : Client S V) where
    -- a VALUE that is heard
    pub value_weighed : (q : List (Report S V)) (o : Outcome S V) (found : Option (S × V))
        → ((known : Reading S V) → outcome_of K.rules.n m.client o known ≡ decided K m.client (client_of x known) known found)
        → Heard K.rules d p m.server m.timestamp m.value found q → (is_some found ≡ true → K.rules.n ≤ room)
        → Weighed K d p m (on_value K (client_of x (view K.rules.above d K.rules.n p)) m (reading (view K.rules.above d K.rules.n p))) room o q
    value_weighed q o found is told fits =
        let before = client_of x (view K.rules.above d K.rules.n p) in
        let known = view K.rules.above d K.rules.n q in
        let after = after_value K.rules d p m.server m.timestamp m.value in
        let same : decided K m.client before known found ≡ decided K m.client before after (decide K.rules after after.watched) =
        ap₂ (λ r f. decided K m.client before r f) told.after told.answer in
        record {
          outcome_is = is known ∙ decided_same K m.client x known (view K.rules.above d K.rules.n p) known found ∙ same;
          fits = let counted = sym (ap (λ e. length e.sent) same) ∙ length-decided K m.client before known found in grind arith;
          rest_after = told.rest;
        }

    -- a VALUE that would end the read, and for whose STOPs there is no room
    pub value_overfull : room < K.rules.n
        → is_some (decide K.rules (after_value K.rules d p m.server m.timestamp m.value) (after_value K.rules d p m.server m.timestamp m.value).watched) ≡ true
        → room < length (on_value K (client_of x (view K.rules.above d K.rules.n p)) m (reading (view K.rules.above d K.rules.n p))).sent
    value_overfull short some =
        let after = after_value K.rules d p m.server m.timestamp m.value in
        let counted = length-decided K m.client (client_of x (view K.rules.above d K.rules.n p)) after (decide K.rules after after.watched) in
        omega (arith, counted ∙ ap (λ b. cond b K.rules.n 0) some)
