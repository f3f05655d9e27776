-- The unanimous system: a quorum has all servers, and a fail-prone set none.
use Rattle.std.specs.Prelude.{◌≡◌, ℕ, zero, suc, Bool, true, ◌&&◌, List, [], ◌∷◌, Some, None, Ok, Err, Result}
use Rattle.calls.specs.Refusals.{Check, first_failed}
use Rattle.calls.specs.declared.Refusal.{Refusal}
use Rattle.calls.specs.declared.Refusal.TheVariants.{SystemSize}
use Rattle.quorums.specs.Sets.{Set, outside, refused_size}
use Rattle.third.specs.declared.unanimous.Unanimous.{Unanimous}

-- whether each of the servers 0 .. n-1 is in the set
abbrev pub each : ℕ → Set → Bool
each zero s = true
each (suc n) s = s n && each n s

-- the servers of a unanimous system are 0 .. n-1
abbrev pub unanimous_size : Unanimous → ℕ
unanimous_size q = q.n

-- all n servers are in the set
abbrev pub unanimous_quorum : Unanimous → Set → Bool
unanimous_quorum q s = each q.n s

-- none of the n servers is in the set
abbrev pub unanimous_fail_prone : Unanimous → Set → Bool
unanimous_fail_prone q s = each q.n (outside s)

-- the one check: that n is 1 to 16
abbrev pub unanimous_checks : ℕ → List Check
unanimous_checks n = (refused_size n, SystemSize) ∷ []

-- what opening a unanimous system answers: the system of n servers where the check passes, and else its refusal
abbrev pub Opened : ℕ → Result Unanimous Refusal → Type 0
Opened n (Ok q) = (first_failed (unanimous_checks n) ≡ None) × (q.n ≡ n)
Opened n (Err e) = first_failed (unanimous_checks n) ≡ Some e
