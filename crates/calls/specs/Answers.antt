-- Answers of calls that may be refused.
use Rattle.std.specs.Prelude.{Ok, Err, Result}
use Rattle.calls.specs.declared.Answer.{Answer}
use Rattle.calls.specs.declared.Answer.TheVariants.{Refused}
use Rattle.calls.specs.declared.Refusal.{Refusal}

-- the answer, which may be that the call is refused
abbrev pub answer_of : {S V : Type 0} → Result (Answer S V) Refusal → Answer S V
answer_of (Ok answer) = answer
answer_of (Err refusal) = Refused refusal
