-- Equal parts of a list, one of which is written. Assumes nothing.
use Rattle.std.proofs.Common.{◌≡◌, ℕ, ◌+◌, ◌-◌, ◌*◌, ◌<◌, ◌≤◌, List, ◌++◌, length, take, drop, sym, ap, ◌∙◌, inl, inr, mul-le-mul_right, suc-mul, arith}
use borrow.Rule.Slice.PartMut.{put_mid}
use Rattle.std.proofs.lemmas.List.{drop-take, take-append-drop, length-append, length-take-le, length-drop}
use Rattle.std.proofs.lemmas.Slice.{take-put_mid_below, drop-put_mid, between-put_mid}
use Rattle.std.proofs.lemmas.Bool.{cases_order}
use Rattle.delivery.specs.Memory.{part}

-- a part ends where the next begins
pub part_end : (i n size : ℕ) → i < n → i * size + size ≤ n * size
part_end i n size h = let e = mul-le-mul_right size h in omega (arith, e, suc-mul i size)

module _ {A : Type 0} (size : ℕ) (xs ys : List A) (i : ℕ) where
  -- the part that is written
  pub part_own : i * size + size ≤ length xs → length ys ≡ size → part size (put_mid (i * size) size xs ys) i ≡ ys
  part_own inside long =
      let width : i * size + size - i * size ≡ size = omega arith in
      ap (λ k. take k (drop (i * size) (put_mid (i * size) size xs ys))) (sym width)
      ∙ between-put_mid (i * size) size xs ys (i * size + size) (omega arith) (omega arith)

  -- a part that is not written
  pub part_other : (u : ℕ) → i * size + size ≤ length xs → length ys ≡ size → (u ≡ i → ⊥) → part size (put_mid (i * size) size xs ys) u ≡ part size xs u
  part_other u inside long other =
      elim (cases_order u i) [
        | inl same ↦ absurd (other same)
        | inr (inl before) ↦
            let ends = part_end u i size before in
            sym (drop-take (u * size) size (put_mid (i * size) size xs ys))
            ∙ ap (drop (u * size)) (take-put_mid_below (i * size) size xs ys (u * size + size) ends (omega arith))
            ∙ drop-take (u * size) size xs
        | inr (inr after) ↦
            let ends = part_end i u size after in
            ap (take size) (drop-put_mid (i * size) size xs ys (u * size) ends (omega arith) long)
      ]

-- a part that is written as it was
pub part_kept : {A : Type 0} (a k : ℕ) (xs : List A) → put_mid a k xs (take k (drop a xs)) ≡ xs
part_kept a k xs = ap (λ l. take a xs ++ l) (take-append-drop k (drop a xs)) ∙ take-append-drop a xs

-- a part that is written keeps the length
pub length-put_mid : {A : Type 0} (a k : ℕ) (xs ys : List A) → a + k ≤ length xs → length ys ≡ k → length (put_mid a k xs ys) ≡ length xs
length-put_mid a k xs ys inside long =
    let front : length (take a xs) ≡ a = length-take-le a xs (omega arith) in
    omega (arith, front, length-append (take a xs) (ys ++ drop k (drop a xs)), length-append ys (drop k (drop a xs)), length-drop k (drop a xs), length-drop a xs)
