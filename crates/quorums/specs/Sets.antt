-- Sets of servers by their members, and the set that a mask stands for.
use Rattle.std.specs.Prelude.{ℕ, zero, suc, ◌+◌, ◌/◌, ◌%◌, Bool, true, false, cond, not, ◌&&◌, ◌||◌, ◌==◌, nat_lt}
use Rattle.quorums.specs.declared.sets.ServerSet.{ServerSet}

-- a set of servers: which servers are in it
abbrev pub Set : Type 0
Set = ℕ → Bool

-- the set of a mask: server i is in it where digit i of the mask, from the lowest, is 1
abbrev pub bits : ℕ → Set
bits m zero = m % 2 == 1
bits m (suc i) = bits (m / 2) i

-- the servers in a set of the code
abbrev pub members : ServerSet → Set
members s = bits s.mask

-- no server
abbrev pub none : Set
none i = false

-- the servers 0 .. n-1
abbrev pub below : ℕ → Set
below zero i = false
below (suc n) zero = true
below (suc n) (suc i) = below n i

-- the servers that are in both sets
abbrev pub both : Set → Set → Set
both a b i = a i && b i

-- the servers that are in one of the sets, or in both
abbrev pub either : Set → Set → Set
either a b i = a i || b i

-- the servers that are not in the set
abbrev pub outside : Set → Set
outside a i = not (a i)

-- how many of the servers 0 .. n-1 are in the set
unfoldable pub tally : ℕ → Set → ℕ
tally zero s = 0
tally (suc n) s = cond (s 0) 1 0 + tally n (λ i. s (suc i))

-- whether each of the servers 0 .. n-1 is in the set
unfoldable pub all : ℕ → Set → Bool
all zero s = true
all (suc n) s = s 0 && all n (λ i. s (suc i))

-- whether each of the servers 0 .. n-1 that is in a is in b too
abbrev pub part_of : ℕ → Set → Set → Bool
part_of n a b = all n (either (outside a) b)

-- no system has so many servers: none, or over 16
abbrev pub refused_size : ℕ → Bool
refused_size n = n == 0 || nat_lt 16 n
