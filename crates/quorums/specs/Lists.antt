-- Lists of sets of servers.
use Rattle.std.specs.Prelude.{ℕ, Bool, not, List}
use Rattle.std.specs.List.{list_any}
use Rattle.quorums.specs.Sets.{Set, members, below, either, all, part_of}
use Rattle.quorums.specs.declared.sets.ServerSet.{ServerSet}

-- some listed set has each of the n servers that is in the set
abbrev pub contained : ℕ → List ServerSet → Set → Bool
contained n sets s = list_any (λ l. part_of n s (members l)) sets

-- some listed set and the set have all n servers together: the set has each one outside that listed set
abbrev pub completed : ℕ → List ServerSet → Set → Bool
completed n sets s = list_any (λ l. all n (either (members l) s)) sets

-- some three of the sets, repeats allowed, have all n servers together
abbrev pub covered : ℕ → List ServerSet → Bool
covered n sets = list_any (λ a. list_any (λ b. completed n sets (either (members a) (members b))) sets) sets

-- the set has a server from n on
abbrev pub past : ℕ → Set → Bool
past n s = not (part_of 16 s (below n))
