-- Checks that pass. Assumes nothing.
use Rattle.std.proofs.Common.{◌≡◌, ℕ, Bool, true, false, not, List, [], ◌∷◌, Some, None, Ok, Err, Option, refl, arith}
use Rattle.calls.specs.Refusals.{Check, first_failed, passed}
use Rattle.calls.specs.declared.Refusal.{Refusal}

-- where no check fails, the first does not, and none after it
pub passes_first : (failed : Bool) (e : Refusal) (checks : List Check) → first_failed ((failed, e) ∷ checks) ≡ None → (failed ≡ false) × (first_failed checks ≡ None)
passes_first true e checks passed = let z : ◌≡◌ {A = ℕ} 0 1 = cc in absurd (omega arith)
passes_first false e checks passed = (refl, passed)

-- what passed was not refused
pub passed_ok : (o : Option Refusal) (u : Unit {0}) → passed o ≡ Ok u → o ≡ None
passed_ok None u is = refl
passed_ok (Some e) u is = let z : ◌≡◌ {A = ℕ} 0 1 = cc in absurd (omega arith)

-- what did not pass was refused so
pub passed_err : (o : Option Refusal) (e : Refusal) → passed o ≡ Err e → o ≡ Some e
passed_err None e is = let z : ◌≡◌ {A = ℕ} 0 1 = cc in absurd (omega arith)
passed_err (Some d) e is = cc

-- the one check passed
pub one_passes : (b : Bool) (e : Refusal) (u : Unit {0}) → passed (first_failed ((not b, e) ∷ [])) ≡ Ok u → b ≡ true
one_passes true e u is = refl
one_passes false e u is = let z : ◌≡◌ {A = ℕ} 0 1 = cc in absurd (omega arith)
