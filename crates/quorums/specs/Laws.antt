-- What holds of each quorum system.
use Rattle.std.specs.Prelude.{◌≡◌, ℕ, ◌<◌, ◌≤◌, Bool, true, false}
use Rattle.quorums.specs.Sets.{Set, none, outside}

-- every member of a below n is one of b
abbrev pub Part : ℕ → Set → Set → Type 0
Part n a b = (i : ℕ) → i < n → a i ≡ true → b i ≡ true

-- There are 1 to 16 servers. Any part of a fail-prone set is fail-prone, and any set that holds a quorum is one.
-- Two quorums share a server outside each fail-prone set, and the servers outside a fail-prone set are a quorum.
pub record QuorumLaws (n : ℕ) (quorum fail_prone : Set → Bool) : Type 0 where
  pub some_server : 0 < n
  pub few_servers : n ≤ 16
  pub none_fail_prone : fail_prone none ≡ true
  pub part_fail_prone : (a b : Set) → Part n a b → fail_prone b ≡ true → fail_prone a ≡ true
  pub larger_quorum : (a b : Set) → Part n a b → quorum a ≡ true → quorum b ≡ true
  pub quorums_meet : (a b f : Set) → quorum a ≡ true → quorum b ≡ true → fail_prone f ≡ true → (i : ℕ) × (i < n) × (a i ≡ true) × (b i ≡ true) × (f i ≡ false)
  pub rest_quorum : (f : Set) → fail_prone f ≡ true → quorum (outside f) ≡ true
