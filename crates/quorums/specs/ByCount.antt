-- The threshold system: how many servers make a quorum, and how many may be faulty.
use Rattle.std.specs.Prelude.{◌≡◌, ℕ, ◌+◌, ◌*◌, ◌/◌, Bool, ◌||◌, List, [], ◌∷◌, Some, None, Ok, Err, Result, nat_le, nat_lt}
use Rattle.calls.specs.Refusals.{Check, first_failed}
use Rattle.calls.specs.declared.Refusal.{Refusal}
use Rattle.calls.specs.declared.Refusal.TheVariants.{SystemSize}
use Rattle.quorums.specs.Sets.{Set, tally, refused_size}
use Rattle.quorums.specs.declared.threshold.Threshold.{Threshold}

-- how many servers are a quorum: (n + f + 1) / 2, rounded up
abbrev pub needed : ℕ → ℕ → ℕ
needed n f = (n + f + 1 + 1) / 2

-- the servers of a threshold system are 0 .. n-1
abbrev pub threshold_size : Threshold → ℕ
threshold_size q = q.n

-- enough of the n servers are in the set
abbrev pub threshold_quorum : Threshold → Set → Bool
threshold_quorum q s = nat_le (needed q.n q.f) (tally q.n s)

-- at most f of the n servers are in the set
abbrev pub threshold_fail_prone : Threshold → Set → Bool
threshold_fail_prone q s = nat_le (tally q.n s) q.f

-- the one check: that n is 1 to 16, f at most 5, and 3 f + 1 at most n
abbrev pub threshold_checks : ℕ → ℕ → List Check
threshold_checks n f = (refused_size n || nat_lt 5 f || nat_lt n (3 * f + 1), SystemSize) ∷ []

-- what opening a threshold system answers: the system of n and f where the check passes, and else its refusal
abbrev pub Opened : ℕ → ℕ → Result Threshold Refusal → Type 0
Opened n f (Ok q) = (first_failed (threshold_checks n f) ≡ None) × (q.n ≡ n) × (q.f ≡ f)
Opened n f (Err e) = first_failed (threshold_checks n f) ≡ Some e
