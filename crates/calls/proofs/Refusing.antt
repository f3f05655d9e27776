-- A call that is refused: its result and its answer. Assumes nothing.
use Rattle.std.proofs.Common.{◌≡◌, Ok, Err, Result, ap}
use Rattle.std.specs.Result.{IsErrAnd}
use Rattle.calls.specs.Answers.{answer_of}
use Rattle.calls.specs.declared.Answer.{Answer}
use Rattle.calls.specs.declared.Answer.TheVariants.{Refused}
use Rattle.calls.specs.declared.Refusal.{Refusal}

-- it is that refusal
pub refused_as : {S V : Type 0} (r : Result (Answer S V) Refusal) (e : Refusal) → IsErrAnd r (λ x. x ≡ e) → answer_of r ≡ Refused e
refused_as (Ok answer) e is = absurd is
refused_as (Err x) e is = ap Refused is

-- an error that is known
pub err_as : {T E : Type 0} (r : Result T E) (e : E) → IsErrAnd r (λ x. x ≡ e) → r ≡ Err e
err_as (Ok x) e is = absurd is
err_as (Err x) e is = ap Err is
