-- Entries in memory by row and place.
use Rattle.std.proofs.Common.{◌≡◌, ℕ, ◌+◌, ◌*◌, ◌/◌, ◌%◌, ◌<◌, ◌≤◌, Bool, ◌&&◌, eqb, ltb, List, None, Option, length, set, sym, ap, ◌∙◌, inl, inr, mul_comm, arith}
use Rattle.std.proofs.lemmas.Nat.{mul-le, mul-add-lt, div-mul-add, mod-mul-add}
use Rattle.std.proofs.lemmas.List.{get_or_past, get_or-set_same, get_or-set_other}
use Rattle.std.proofs.lemmas.Bool.Decides.{nat_tests}
use Rattle.std.proofs.lemmas.Bool.{cases_lt, lt-ltb, le-ltb, cases_Bool, cond-true, cond-false}
use Rattle.reading.specs.declared.reports.Reports.{Reports}
use Rattle.reading.specs.Reports.{Report, Kept, cell, late, put_at, shown, view}
use Rattle.reading.proofs.Views.{shown_same}

-- an entry of a row is within the memory
pub inside : {R : Type 0} (n : ℕ) (p : List R) (b k : ℕ) → n * (n + 1) ≤ length p → b < n → k ≤ n → b * (n + 1) + k < length p
inside n p b k room hb hk =
    let k1 : k < n + 1 = omega arith in
    omega (arith, mul-add-lt b (n + 1) k n hb k1, mul_comm n (n + 1))

-- entries at one index are in one row, at one place
apart_row : (n b k c j : ℕ) → k ≤ n → j ≤ n → b * (n + 1) + k ≡ c * (n + 1) + j → b ≡ c
apart_row n b k c j hk hj e =
    sym (div-mul-add b (n + 1) k (omega arith)) ∙ ap (λ x. x / (n + 1)) e ∙ div-mul-add c (n + 1) j (omega arith)

apart_place : (n b k c j : ℕ) → k ≤ n → j ≤ n → b * (n + 1) + k ≡ c * (n + 1) + j → k ≡ j
apart_place n b k c j hk hj e =
    sym (mod-mul-add b (n + 1) k (omega arith)) ∙ ap (λ x. x % (n + 1)) e ∙ mod-mul-add c (n + 1) j (omega arith)

-- a write at an index is a write of that entry
pub cell_set : {R : Type 0} (n : ℕ) (p : List (Option R)) (b k : ℕ) (x : Option R) → n * (n + 1) ≤ length p → b < n → k ≤ n
    → (c j : ℕ) → j ≤ n → cell n (set p (b * (n + 1) + k) x) c j ≡ put_at (cell n p) b k x c j
cell_set n p b k x room hb hk c j hj =
    elim (cases_Bool (eqb b c && eqb k j)) [
      | inl e ↦ let same = get_or-set_same p (b * (n + 1) + k) x None (inside n p b k room hb hk) in grind (arith, nat_tests, same)
      | inr e ↦ let row = apart_row n b k c j hk hj in let place = apart_place n b k c j hk hj in grind (arith, nat_tests, row, place, get_or-set_other p (b * (n + 1) + k) (c * (n + 1) + j) x None)
    ]

-- of servers from n on nothing is reported
module _ {S V : Type 0} (r : Reports S V) where
  pub cell_past : (b k : ℕ) → r.n ≤ b → cell r.n r.entries.now b k ≡ None
  cell_past b k l = get_or_past r.entries.now (b * (r.n + 1) + k) None (omega (arith, r.room, mul-le r.n (r.n + 1) b (r.n + 1) l (omega arith)))

  pub cell_late : (b : ℕ) → cell r.n r.entries.now b r.n ≡ late r.n (cell r.n r.entries.now) b
  cell_late b =
      elim (cases_lt b r.n) [
        | inl l ↦ sym (cond-true (ltb b r.n) (cell r.n r.entries.now b r.n) None (lt-ltb b r.n l))
        | inr l ↦ cell_past b r.n l ∙ sym (cond-false (ltb b r.n) (cell r.n r.entries.now b r.n) None (le-ltb b r.n l))
      ]

-- what is known after an entry is written
module _ {S V : Type 0} (r q : Reports S V) (b k : ℕ) (x : Report S V) (hb : b < r.n) (hk : k ≤ r.n) (written : q.entries.now ≡ set r.entries.now (b * (r.n + 1) + k) x) where
  pub put_cell : (c j : ℕ) → j ≤ r.n → cell r.n q.entries.now c j ≡ put_at (cell r.n r.entries.now) b k x c j
  put_cell c j l = ap (λ p. cell r.n p c j) written ∙ cell_set r.n r.entries.now b k x (omega (arith, r.room)) hb hk c j l

  pub put_view : (above : S → S → Bool) (d : S × V) → Kept r q → view above d q.n q.entries.now ≡ shown above d r.n (put_at (cell r.n r.entries.now) b k x)
  put_view above d kept =
      ap (λ n. view above d n q.entries.now) kept.servers
      ∙ shown_same above d r.n (cell r.n q.entries.now) (put_at (cell r.n r.entries.now) b k x) (λ c j l m. put_cell c j m)
