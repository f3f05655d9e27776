-- The sets, timestamps, messages and servers that the worked cases are about.
use Rattle.std.specs.Prelude.{ℕ, ◌^◌, true, false, cond, T, List, [], ◌∷◌, ◌==◌, nat_lt}
use Rattle.std.proofs.Common.{lit<}
use Rattle.network.specs.declared.message.Message.{Message}
use Rattle.quorums.specs.declared.sets.ServerSet.{ServerSet}
use Rattle.server.specs.Serving.{ServerState, Reaction, silent, reaction}
use Rattle.timestamps.specs.PackedOrder.{packed_above, packed_lowest}
use Rattle.timestamps.specs.declared.packed.Packed.{Packed}
use Rattle.timestamps.specs.declared.paired.Paired.{Paired}
use Rattle.values.specs.TotalValues.{no_pence}
use Rattle.values.specs.declared.total.Total.{Total}

-- the set of servers of a mask
abbrev pub servers : ℕ → ServerSet
servers mask = record { mask = mask }

-- the sets {0, 1} and {2}
abbrev pub two_and_one : List ServerSet
two_and_one = servers 3 ∷ servers 4 ∷ []

-- the sets {0, 1} and {2, 3}
abbrev pub two_and_two : List ServerSet
two_and_two = servers 3 ∷ servers 12 ∷ []

-- the packed timestamp of a number
abbrev pub numbered : (number : ℕ) → T (nat_lt number (2 ^ 64)) → Packed
numbered number low = record { number = number; fits = lit< low }

-- the paired timestamp of a count and a client
abbrev pub counted : (count client : ℕ) → T (nat_lt count (2 ^ 32)) → T (nat_lt client 64) → Paired
counted count client low few = record { count = count; client = client; fits = lit< low; known = lit< few }

-- a server that holds timestamp 69 and the value, and listens to client 0 from 69 on, under the number
abbrev pub listening_from_69 : Total → ℕ → ServerState Packed Total
listening_from_69 value number = record {
  timestamp = numbered 69 tt;
  value = value;
  listener = λ client. cond (client == 0) (record { number = number; listening = true; start = numbered 69 tt }) (silent packed_lowest);
}

-- a message of the kind's byte between client 5 and server 0, with timestamp 5
abbrev pub about_5 : (kind number : ℕ) → Total → Message Packed Total
about_5 kind number value = record { client = 5; server = 0; kind = kind; number = number; timestamp = numbered 5 tt; value = value }

-- what that server, correct and with six clients, does with the STORE of timestamp 5
abbrev pub late_store : (value : Total) (number : ℕ) (late : Total) (write : ℕ) → Reaction Packed Total
late_store value number late write = reaction packed_above packed_lowest no_pence false 6 (listening_from_69 value number) (about_5 3 write late)
