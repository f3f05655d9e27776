-- A read that begins, and its client's reports. Assumes nothing.
use Rattle.std.proofs.Common.{◌≡◌, ℕ, arith}
use Rattle.calls.specs.declared.Answer.{Answer}
use Rattle.calls.specs.declared.Answer.TheVariants.{Refused}
use Rattle.calls.specs.declared.Call.TheVariants.{Read}
use Rattle.calls.specs.declared.Refusal.{Refusal}
use Rattle.protocol.specs.Settings.{Setting}
use Rattle.delivery.specs.Memory.{Lent}
use Rattle.register.specs.declared.record.Register.{Register}
use Rattle.register.specs.Calling.{Answers, ReadAnswers}
use Rattle.register.specs.Beginning.{BlankFor}

module _ {Q S V : Type 0} (K : Setting S V) (g : Register Q) (x : Lent S V) where
  -- a read that is refused
  pub read_refused : (c : ℕ) (x' : Lent S V) {e : Refusal} {g' : Register Q} → Answers K g x (Read c) (Refused e) g' x' → ReadAnswers K g x c (Refused e) g' x'
  read_refused c x' {e} answers = record {
    answers = answers;
    reports_after = λ k clash. let z : ◌≡◌ {A = ℕ} 0 1 = cc in absurd (omega arith);
  }

  -- a read that begins
  pub read_begun : (c : ℕ) (r : Answer S V) (g' : Register Q) (x' : Lent S V) → Answers K g x (Read c) r g' x' → BlankFor K c x.reports x'.reports → ReadAnswers K g x c r g' x'
  read_begun c r g' x' answers blank = record { answers = answers; reports_after = λ k is. blank }
