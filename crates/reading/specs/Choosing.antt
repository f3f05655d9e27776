-- A set of servers that is made by a test of each.
use Rattle.std.specs.Prelude.{◌≡◌, ℕ, ◌<◌, ◌≤◌, min, Bool, false}
use Rattle.quorums.specs.Sets.{Set}

-- of the servers 0 .. n-1, and below 16, the set has those that the test holds of; it has no others
abbrev pub Tested : (ℕ → Bool → Type 0) → ℕ → Set → Type 0
Tested test n s = ((i : ℕ) → i < min n 16 → test i (s i)) × ((i : ℕ) → min n 16 ≤ i → s i ≡ false)

-- of a server below n, the test can only say whether the set has it; the set has no server from n or 16 on
abbrev pub Tells : (ℕ → Bool → Type 0) → ℕ → Set → Type 0
Tells test n s = ((i : ℕ) (r : Bool) → i < n → test i r → r ≡ s i) × ((i : ℕ) → min n 16 ≤ i → s i ≡ false)
