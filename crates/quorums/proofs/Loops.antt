-- A loop that looks for an element, by what is left of the list.
use Rattle.std.proofs.Common.{◌≡◌, ℕ, ◌+◌, ◌<◌, ◌≤◌, Bool, true, false, ◌||◌, List, length, get_or, drop, sym, ap, ◌∙◌}
use Rattle.std.proofs.lemmas.List.{at_drop_more, at_drop_all}
use Rattle.std.proofs.lemmas.Bool.{or_left}
use Rattle.std.specs.List.{list_any}

module _ {A : Type 0} (p : A → Bool) (xs : List A) (i : ℕ) where
  -- it is found
  pub any_found : list_any p (drop i xs) ≡ list_any p xs → i < length xs → (d : A) → true ≡ p (get_or xs i d) → true ≡ list_any p xs
  any_found left l d e = sym (sym left ∙ at_drop_more (list_any p) xs i d l ∙ or_left (p (get_or xs i d)) (list_any p (drop (i + 1) xs)) (sym e))

  -- it is not this one
  pub any_next : list_any p (drop i xs) ≡ list_any p xs → i < length xs → (d : A) → false ≡ p (get_or xs i d) → list_any p (drop (i + 1) xs) ≡ list_any p xs
  any_next left l d e = ap (λ t. t || list_any p (drop (i + 1) xs)) e ∙ sym (at_drop_more (list_any p) xs i d l) ∙ left

  -- it is none of them
  pub any_missed : list_any p (drop i xs) ≡ list_any p xs → length xs ≤ i → false ≡ list_any p xs
  any_missed left l = sym (at_drop_all (list_any p) xs i l) ∙ left
