-- What every kind of value owes.
use Rattle.std.specs.Prelude.{◌≡◌, Bool, true}

-- same is yes exactly for equal values
pub record ValueLaws {V : Type 0} (same : V → V → Bool) : Type 0 where
  pub itself : (v : V) → same v v ≡ true
  pub equal : (u v : V) → same u v ≡ true → u ≡ v
