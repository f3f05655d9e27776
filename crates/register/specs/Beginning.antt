-- A client of the register that begins an operation.
use Rattle.std.specs.Prelude.{◌≡◌, ℕ, not, List, [], ◌∷◌, drop, replicate, Some, None, Ok, Err, Option, Result, nat_le, nat_lt}
use Rattle.calls.specs.Refusals.{first_failed}
use Rattle.calls.specs.declared.Answer.{Answer}
use Rattle.calls.specs.declared.Refusal.{Refusal}
use Rattle.calls.specs.declared.Refusal.TheVariants.{OperationOpen, NumbersUsedUp, NetworkFull}
use Rattle.reading.specs.Reports.{Report}
use Rattle.reading.specs.Readings.{updated}
use Rattle.protocol.specs.Settings.{Setting}
use Rattle.protocol.specs.Clients as protocol
use Rattle.client.specs.Showing.{messages_of}
use Rattle.client.specs.declared.state.Client.{Client}
use Rattle.client.specs.declared.state.Broadcast.{Broadcast}
use Rattle.delivery.specs.Memory.{part, report_count}
use Rattle.delivery.specs.Answering.{OnlyOf}
use Rattle.delivery.specs.Parts.{clients_in}

module _ {S V : Type 0} (K : Setting S V) where
  -- why a client may not begin an operation, if it may not; there is room for so many messages
  abbrev pub client_refuses : protocol.Client S V → ℕ → Option Refusal
  client_refuses x room =
      first_failed
      ((not (protocol.is_idle x.phase), OperationOpen)
      ∷ ((nat_le 4294967295 x.number, NumbersUsedUp) ∷ ((nat_lt room K.rules.n, NetworkFull) ∷ [])))

  -- begun: the client is as the outcome says, the others as they were, and so are answer and messages
  pub record BegunBy (clients : List (Client S V)) (reports : List (Report S V)) (c : ℕ) (o : protocol.Outcome S V) (given : Answer S V × Option (Broadcast S V))
      (clients' : List (Client S V)) (reports' : List (Report S V)) : Type 0 where
    pub clients_after : clients_in K K.client_count clients' reports' ≡ updated (clients_in K K.client_count clients reports) c o.after
    pub clients_rest : drop K.client_count clients' ≡ drop K.client_count clients
    pub answer_is : given.0 ≡ o.answer
    pub sent_is : messages_of K.rules.n c given.1 ≡ o.sent

  -- begun, or refused with clients and reports as they were
  abbrev pub BegunAt : List (Client S V) → List (Report S V) → ℕ → protocol.Outcome S V → ℕ → Result (Answer S V × Option (Broadcast S V)) Refusal → List (Client S V) → List (Report S V) → Type 0
  BegunAt clients reports c o room (Ok given) clients' reports' =
      (client_refuses (clients_in K K.client_count clients reports c) room ≡ None) × BegunBy clients reports c o given clients' reports'
  BegunAt clients reports c o room (Err e) clients' reports' =
      (client_refuses (clients_in K K.client_count clients reports c) room ≡ Some e) × (clients' ≡ clients) × (reports' ≡ reports)

  -- a client's reports are all none, and the others as they were
  pub record BlankFor (c : ℕ) (reports reports' : List (Report S V)) : Type 0 where
    pub only : OnlyOf K c reports reports'
    pub own : part (report_count K) reports' c ≡ replicate (report_count K) None

  -- the reports after a read began; refused: as they were
  abbrev pub ReadReports : ℕ → List (Report S V) → Result (Answer S V × Option (Broadcast S V)) Refusal → List (Report S V) → Type 0
  ReadReports c reports (Ok given) reports' = BlankFor c reports reports'
  ReadReports c reports (Err e) reports' = reports' ≡ reports
