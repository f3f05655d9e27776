-- The listed system: the sets of servers that may be faulty, and their parts.
use Rattle.std.specs.Prelude.{◌≡◌, ℕ, Bool, ◌||◌, List, [], ◌∷◌, length, take, Some, None, Ok, Err, Result, ◌==◌, nat_lt}
use Rattle.calls.specs.Refusals.{Check, first_failed}
use Rattle.calls.specs.declared.Refusal.{Refusal}
use Rattle.calls.specs.declared.Refusal.TheVariants.{SystemSize, ListedSets, SetsCover}
use Rattle.std.specs.List.{list_any}
use Rattle.quorums.specs.Sets.{Set, members, refused_size}
use Rattle.quorums.specs.Lists.{contained, completed, covered, past}
use Rattle.quorums.specs.declared.listed.Listed.{Listed}
use Rattle.quorums.specs.declared.sets.ServerSet.{ServerSet}

-- the sets that are listed
abbrev pub sets_of : Listed → List ServerSet
sets_of q = take q.count q.sets

-- the servers of a listed system are 0 .. n-1
abbrev pub listed_size : Listed → ℕ
listed_size q = q.n

-- the set has all servers outside some listed set
abbrev pub listed_quorum : Listed → Set → Bool
listed_quorum q s = completed q.n (sets_of q) s

-- the set is a part of some listed set
abbrev pub listed_fail_prone : Listed → Set → Bool
listed_fail_prone q s = contained q.n (sets_of q) s

-- there is no set, there are over 128, or some set has a server from n on
abbrev pub bad_list : ℕ → List ServerSet → Bool
bad_list n sets = length sets == 0 || nat_lt 128 (length sets) || list_any (λ s. past n (members s)) sets

-- the checks in their order: that n is 1 to 16, that the list is not bad, that no three sets cover all servers
abbrev pub listed_checks : ℕ → List ServerSet → List Check
listed_checks n sets = (refused_size n, SystemSize) ∷ (bad_list n sets, ListedSets) ∷ (covered n sets, SetsCover) ∷ []

-- what opening a listed system answers: the system of these sets where each check passes, and else the first refusal
abbrev pub Opened : ℕ → List ServerSet → Result Listed Refusal → Type 0
Opened n sets (Ok q) = (first_failed (listed_checks n sets) ≡ None) × (q.n ≡ n) × (q.count ≡ length sets) × (sets_of q ≡ sets)
Opened n sets (Err e) = first_failed (listed_checks n sets) ≡ Some e
