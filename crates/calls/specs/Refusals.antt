-- The numbers of refusals, and which of several checks refuses.
use Rattle.std.specs.Prelude.{ℕ, Bool, cond, List, [], ◌∷◌, Some, None, Ok, Err, Option, Result}
use Rattle.calls.specs.declared.Refusal.{Refusal}
use Rattle.calls.specs.declared.Refusal.TheVariants.{SystemSize, ListedSets, SetsCover, Memory, NoClient, NoServer, OperationOpen, NumbersUsedUp, NetworkFull, NoMessage, NotFailProne, ServerCorrect, NotServerKind, TokenOut, Digits, UnknownFrame, FrameLength, OtherKinds, NotOpened, OpenedTwice, ScriptTooLong}

-- the number of a refusal, case by case
abbrev pub number_of : Refusal → ℕ
number_of SystemSize = 1
number_of ListedSets = 2
number_of SetsCover = 3
number_of Memory = 4
number_of NoClient = 5
number_of NoServer = 6
number_of OperationOpen = 7
number_of NumbersUsedUp = 8
number_of NetworkFull = 9
number_of NoMessage = 10
number_of NotFailProne = 11
number_of ServerCorrect = 12
number_of NotServerKind = 13
number_of TokenOut = 14
number_of Digits = 15
number_of UnknownFrame = 16
number_of FrameLength = 17
number_of OtherKinds = 18
number_of NotOpened = 19
number_of OpenedTwice = 20
number_of ScriptTooLong = 21

-- a check: whether it fails, and the refusal that it then gives
abbrev pub Check : Type 0
Check = Bool × Refusal

-- the refusal of the first check that fails, in the order of the list; none where all pass
abbrev pub first_failed : List Check → Option Refusal
first_failed [] = None
first_failed (c ∷ cs) = cond c.0 (Some c.1) (first_failed cs)

-- passed where no check fails, and else refused
abbrev pub passed : Option Refusal → Result Unit Refusal
passed None = Ok tt
passed (Some e) = Err e
