-- Packed timestamps: their order is that of their numbers, and the owner is the remainder by 64.
use Rattle.std.specs.Prelude.{ℕ, suc, ◌+◌, ◌-◌, ◌%◌, ◌^◌, ◌<◌, Bool, true, false, cond, T, Some, None, Option, nat_lt}
use Rattle.std.proofs.Common.{leb→le, lit<}
use Rattle.timestamps.specs.declared.packed.Packed.{Packed}
use Rattle.timestamps.specs.Laws.{higher, fitting}

-- whether the first number is above the second
abbrev pub packed_above : Packed → Packed → Bool
packed_above s t = nat_lt t.number s.number

-- the owner is the remainder by 64
abbrev pub packed_owner : Packed → ℕ
packed_owner s = s.number % 64

-- the lowest number is 0
abbrev pub packed_lowest : Packed
packed_lowest = record { number = 0; fits = lit< tt }

-- the timestamp of a number that a test found to fit
abbrev pub packed_when : (number : ℕ) (test : Bool) → (T test → number < 2 ^ 64) → Option Packed
packed_when number true fit = Some (record { number = number; fits = fit tt })
packed_when number false fit = None

-- the timestamp of a number, if the number is below 2 ^ 64
abbrev pub packed : ℕ → Option Packed
packed number = packed_when number (nat_lt number (2 ^ 64)) (leb→le (suc number) (2 ^ 64))

-- the client's number in the row of 64 numbers that top stands in
abbrev pub in_row : ℕ → ℕ → ℕ
in_row client top = top - top % 64 + client

-- the client's lowest number above top: in the row of top, or in the row after it
abbrev pub following : ℕ → ℕ → ℕ
following client top = cond (nat_lt top (in_row client top)) (in_row client top) (in_row client top + 64)

-- the client's lowest number above top, if it is below 2 ^ 64; only clients below 64 own timestamps
abbrev pub next_number : ℕ → ℕ → Option ℕ
next_number client top = cond (nat_lt client 64) (fitting (2 ^ 64) (following client top)) None

-- the client's lowest timestamp above both a and b
abbrev pub packed_successor : ℕ → Packed → Packed → Option Packed
packed_successor client a b = cond (nat_lt client 64) (packed (following client (higher packed_above a b).number)) None
