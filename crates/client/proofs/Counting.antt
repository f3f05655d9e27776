-- A set with one server more. Assumes nothing.
use Rattle.std.proofs.Common.{◌≡◌, ℕ, ◌<◌, Bool, true, false, cond, ◌&&◌, ◌||◌, eqb, ltb, ◌∙◌, arith}
use mathlib.Core.Path.{fun_ext}
use Rattle.std.proofs.lemmas.Bool.Decides.{nat_tests}
use Rattle.reading.specs.Readings.{updated}

-- a set that has a server below 16 too is the set changed at that server
pub with_updated : (f g : ℕ → Bool) (b : ℕ) → b < 16 → ((i : ℕ) → g i ≡ (f i || (eqb i b && ltb b 16))) → g ≡ updated f b true
with_updated f g b few each = fun_ext (λ i. each i ∙ at (f i) i)
  where
    at : (x : Bool) (i : ℕ) → (x || (eqb i b && ltb b 16)) ≡ cond (eqb b i) true x
    at true i = grind (arith, nat_tests)
    at false i = grind (arith, nat_tests)
