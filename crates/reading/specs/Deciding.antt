-- A decision slot by slot.
use Rattle.std.specs.Prelude.{Bool, false, Some, None, Option}
use Rattle.reading.specs.Readings.{Rules, Reading, better, backed}

-- there is a value, and the test holds of it
abbrev pub passes : {V : Type 0} → (V → Bool) → Option V → Bool
passes test None = false
passes test (Some v) = test v

-- of a slot's timestamp, where it is watched and a quorum has the same evidence for it, and another pair, the one with the higher timestamp
abbrev pub bettered : {S V : Type 0} → Rules S V → Reading S V → Option S → Option (S × V) → Option (S × V)
bettered K r None rest = rest
bettered K r (Some t) rest = better K.above t (backed K r t K.n) rest
