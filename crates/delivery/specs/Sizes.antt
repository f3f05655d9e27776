-- The limits of a register, and the memory that it takes.
use Rattle.std.specs.Prelude.{ℕ, ◌+◌, ◌*◌, Bool, ◌&&◌, None, nat_le, nat_lt}
use Rattle.network.specs.Queues.{fits}
use Rattle.delivery.specs.declared.sizes.Sizes.{Sizes}

-- 1 to 64 clients, and a network that goes with the memory of its messages: a capacity of 1 to 4096 that the memory has, and a queue that is not longer
abbrev pub within_limits : (m capacity len messages : ℕ) → Bool
within_limits m capacity len messages = nat_lt 0 m && (nat_le m 64 && fits (record { capacity = capacity; len = len; lifted = None }) messages)

-- memory for n servers and m clients, a listener of each server for each client, and n * (n + 1) reports of each client
abbrev pub room_for : (n m : ℕ) → Sizes → Bool
room_for n m sizes =
    nat_le n sizes.servers && (nat_le m sizes.clients && (nat_le (n * m) sizes.listeners && nat_le (m * (n * (n + 1))) sizes.reports))

-- both
abbrev pub enough_for : (n m capacity len : ℕ) → Sizes → Bool
enough_for n m capacity len sizes = within_limits m capacity len sizes.messages && room_for n m sizes
