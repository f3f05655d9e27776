-- Versions: their order is that of their numbers, and client 0 owns them all.
use Rattle.std.specs.Prelude.{ℕ, suc, ◌+◌, ◌^◌, ◌<◌, Bool, true, false, cond, T, Some, None, Option, ◌==◌, nat_lt}
use Rattle.std.proofs.Common.{leb→le, lit<}
use Rattle.timestamps.specs.Laws.{higher, fitting}
use Rattle.third.specs.declared.version.Version.{Version}

-- whether the first number is above the second
abbrev pub version_above : Version → Version → Bool
version_above s t = nat_lt t.number s.number

-- the owner is client 0
abbrev pub version_owner : Version → ℕ
version_owner s = 0

-- the lowest number is 0
abbrev pub version_lowest : Version
version_lowest = record { number = 0; fits = lit< tt }

-- the version of a number that a test found to fit
abbrev pub version_when : (number : ℕ) (test : Bool) → (T test → number < 2 ^ 8) → Option Version
version_when number true fit = Some (record { number = number; fits = fit tt })
version_when number false fit = None

-- the version of a number, if the number is below 2 ^ 8
abbrev pub version : ℕ → Option Version
version number = version_when number (nat_lt number (2 ^ 8)) (leb→le (suc number) (2 ^ 8))

-- the number after top, if it is below 2 ^ 8; only client 0 has one
abbrev pub next_number : ℕ → ℕ → Option ℕ
next_number client top = cond (client == 0) (fitting (2 ^ 8) (top + 1)) None

-- the version after both a and b; only client 0 has one
abbrev pub version_successor : ℕ → Version → Version → Option Version
version_successor client a b = cond (client == 0) (version ((higher version_above a b).number + 1)) None
