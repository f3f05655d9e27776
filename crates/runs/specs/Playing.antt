-- A whole run of a register: what the call promises that opens one and plays a list of calls on it.
use Rattle.std.specs.Prelude.{◌≡◌, ℕ, true, not, List, [], ◌∷◌, ◌++◌, map, reverse, length, take, drop, Some, None, Ok, Err, Option, Result, nat_lt}
use Rattle.calls.specs.Refusals.{first_failed}
use Rattle.calls.specs.declared.Answer.{Answer}
use Rattle.calls.specs.declared.Call.{Call}
use Rattle.calls.specs.declared.Refusal.{Refusal}
use Rattle.calls.specs.declared.Refusal.TheVariants.{Memory}
use Rattle.protocol.specs.Settings.{Setting}
use Rattle.protocol.specs.Protocol.{State}
use Rattle.protocol.specs.Runs.{run, steps, RunLaw}
use Rattle.delivery.specs.Memory.{Lent, enough}
use Rattle.delivery.specs.Answering.{Rest}
use Rattle.register.specs.declared.record.Register.{Register}
use Rattle.register.specs.Calling.{with_queue, state_of}

module _ {S V : Type 0} (K : Setting S V) where
  -- the state after calls, the oldest call first
  abbrev pub state_after_calls : List (Call S V) → State S V
  state_after_calls calls = run K (reverse calls)

  -- the answers to calls, both with the oldest first: those of the run's steps
  abbrev pub answers_to : List (Call S V) → List (Answer S V)
  answers_to calls = reverse (map (λ s. s.answer) (steps K (reverse calls)))

  -- why a run is not played, if it is not: answers shorter than the calls, or too little memory for the register
  abbrev pub play_refusal : Lent S V → List (Call S V) → List (Answer S V) → Option Refusal
  play_refusal x calls answers = first_failed ((nat_lt (length answers) (length calls), Memory) ∷ ((not (enough K 0 x), Memory) ∷ []))

  -- refused: nothing is touched
  pub record RunRefused (calls : List (Call S V)) (x : Lent S V) (answers : List (Answer S V)) (e : Refusal) (x' : Lent S V) (answers' : List (Answer S V)) : Type 0 where
    pub refused_with : play_refusal x calls answers ≡ Some e
    pub memory_kept : x' ≡ x
    pub answers_kept : answers' ≡ answers

module _ {Q S V : Type 0} (K : Setting S V) where
  -- calls were played on a register that was just opened: the answers and the state are those of the protocol, call by call, and the rest of all memory is as it was
  pub record Playing (calls : List (Call S V)) (g : Register Q) (x : Lent S V) (answers : List (Answer S V)) (g' : Register Q) (x' : Lent S V) (answers' : List (Answer S V)) : Type 0 where
    pub answers_are : answers' ≡ answers_to K calls ++ drop (length calls) answers
    pub state_is : state_of K g' x' ≡ state_after_calls K calls
    pub setting_kept : g' ≡ with_queue g g'.len g'.faulty
    pub enough_after : enough K g'.len x' ≡ true
    pub rest_after : Rest K K.capacity x x'

  -- a run was played: as Playing says, on a register of this quorum system, and the law holds after every prefix of the calls
  pub record RunPlayed (system : Q) (calls : List (Call S V)) (x : Lent S V) (answers : List (Answer S V)) (g : Register Q) (x' : Lent S V) (answers' : List (Answer S V)) : Type 0 where
    pub not_refused : play_refusal K x calls answers ≡ None
    pub answers_are : answers' ≡ answers_to K calls ++ drop (length calls) answers
    pub state_is : state_of K g x' ≡ state_after_calls K calls
    pub system_is : g.system ≡ system
    pub clients_are : g.clients ≡ K.client_count
    pub capacity_is : g.capacity ≡ K.capacity
    pub enough_after : enough K g.len x' ≡ true
    pub rest_after : Rest K K.capacity x x'
    pub law_of_every_prefix : (i : ℕ) → RunLaw K (reverse (take i calls))

  -- a run that was played, or refused
  abbrev pub Played : Q → List (Call S V) → Lent S V → List (Answer S V) → Result (Register Q) Refusal → Lent S V → List (Answer S V) → Type 0
  Played system calls x answers (Ok g) x' answers' = RunPlayed system calls x answers g x' answers'
  Played system calls x answers (Err e) x' answers' = RunRefused K calls x answers e x' answers'
