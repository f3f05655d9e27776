-- A decision slot by slot, from the last slot to the first.
use Rattle.std.proofs.Common.{◌≡◌, List, [], ◌∷◌, ◌++◌, Some, None, Option, refl, ap}
use Rattle.reading.specs.Readings.{Reading, Rules, better, backed, decide}
use Rattle.reading.specs.Reports.{listed}
use Rattle.reading.specs.Deciding.{bettered}

module _ {S V : Type 0} (K : Rules S V) (r : Reading S V) where
  -- a decision that begins with one already made
  abbrev pub decide_from : Option (S × V) → List S → Option (S × V)
  decide_from rest [] = rest
  decide_from rest (t ∷ ts) = better K.above t (backed K r t K.n) (decide_from rest ts)

  pub decide_none : (xs : List S) → decide_from None xs ≡ decide K r xs
  decide_none [] = refl
  decide_none (t ∷ ts) = ap (λ o. better K.above t (backed K r t K.n) o) (decide_none ts)

  pub decide_push : (rest : Option (S × V)) (xs : List S) (t : Option S) → decide_from rest (xs ++ listed t) ≡ decide_from (bettered K r t rest) xs
  decide_push rest [] None = refl
  decide_push rest [] (Some t) = refl
  decide_push rest (x ∷ xs) t = ap (λ o. better K.above x (backed K r x K.n) o) (decide_push rest xs t)
