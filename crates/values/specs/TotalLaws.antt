-- Totals with equal pence are equal, and totals keep the laws of values. Assumes nothing.
use Rattle.std.specs.Prelude.{◌≡◌, ◌^◌, ◌<◌, refl}
use mathlib.Core.HLevel.{is_prop→PathP}
use Rattle.std.proofs.Math.Bridge.{le_prop}
use Rattle.std.proofs.lemmas.Bool.{eqb-true, eq-eqb}
use Rattle.values.specs.declared.total.Total.{Total}
use Rattle.values.specs.Laws.{ValueLaws}
use Rattle.values.specs.TotalValues.{same_total}

-- a total is its pence
pub total_equal : (u v : Total) → u.pence ≡ v.pence → u ≡ v
total_equal u v e = λ i. record {
  pence = e i;
  fits = is_prop→PathP (λ j. e j < 2 ^ 64) (λ j. le_prop) u.fits v.fits i;
}

-- totals keep the laws of values
pub total_laws : ValueLaws same_total
total_laws = record {
  itself = λ v. eq-eqb v.pence v.pence refl;
  equal = λ u v e. total_equal u v (eqb-true u.pence v.pence e);
}
