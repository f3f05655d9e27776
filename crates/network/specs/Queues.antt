-- A queue of messages in lent memory, of which one may be lifted.
use Rattle.std.specs.Prelude.{◌≡◌, ℕ, ◌+◌, ◌-◌, ◌≤◌, Bool, true, cond, not, ◌&&◌, List, [], ◌∷◌, ◌++◌, length, take, drop, is_some, Some, None, Ok, Err, Option, Result, nat_le, nat_lt, slice_index_or, slice_set}
use Rattle.std.specs.List.{remove}
use Rattle.calls.specs.Refusals.{Check, first_failed}
use Rattle.calls.specs.declared.Refusal.{Refusal}
use Rattle.calls.specs.declared.Refusal.TheVariants.{Memory, NetworkFull, NoMessage, TokenOut}
use Rattle.network.specs.declared.queue.Network.{Network}
use Rattle.network.specs.declared.queue.Token.{Token}

-- a place, if there is one, is below the length
abbrev pub below : Option ℕ → ℕ → Bool
below None len = true
below (Some place) len = nat_lt place len

-- the capacity is within the limits and the memory
abbrev pub sized : ℕ → ℕ → Bool
sized capacity room = nat_lt 0 capacity && (nat_le capacity 4096 && nat_le capacity room)

-- the record goes with a memory of so many messages
abbrev pub fits : Network → ℕ → Bool
fits net room = sized net.capacity room && (nat_le net.len net.capacity && below net.lifted net.len)

-- the messages that are in the network, oldest first
abbrev pub queue : {M : Type 0} → Network → List M → List M
queue net memory = take net.len memory

-- the checks of opening a network, in order
abbrev pub open_checks : ℕ → ℕ → List Check
open_checks capacity room = (not (sized capacity room), Memory) ∷ []

-- opened: an empty network of that capacity
abbrev pub Opened : ℕ → ℕ → Result Network Refusal → Type 0
Opened capacity room (Ok net) =
    (first_failed (open_checks capacity room) ≡ None) × (net ≡ record { capacity = capacity; len = 0; lifted = None })
Opened capacity room (Err e) = first_failed (open_checks capacity room) ≡ Some e

-- the checks that the record goes with the memory and nothing is lifted, in order
abbrev pub whole_checks : Network → ℕ → List Check
whole_checks net room = (not (fits net room), Memory) ∷ ((is_some net.lifted, TokenOut) ∷ [])

-- the checks of sending so many messages, in order
abbrev pub send_checks : Network → ℕ → ℕ → List Check
send_checks net room sending =
    (not (fits net room), Memory) ∷ ((is_some net.lifted, TokenOut) ∷ ((nat_lt (net.capacity - net.len) sending, NetworkFull) ∷ []))

-- the checks of posting a message, in order
abbrev pub post_checks : Network → ℕ → List Check
post_checks net room =
    (not (fits net room), Memory) ∷ ((is_some net.lifted, TokenOut) ∷ ((nat_le net.capacity net.len, NetworkFull) ∷ []))

-- the record with one message more
abbrev pub longer : Network → Network
longer net = record { capacity = net.capacity; len = net.len + 1; lifted = net.lifted }

-- posted: the message stands behind the others, and the rest of the memory is as it was
abbrev pub Posted : {M : Type 0} → Network → List M → M → Result Unit Refusal → Network → List M → Type 0
Posted net memory message (Ok _) net' memory' =
    (first_failed (post_checks net (length memory)) ≡ None) × (net' ≡ longer net) × (memory' ≡ slice_set memory net.len message)
Posted net memory message (Err e) net' memory' =
    (first_failed (post_checks net (length memory)) ≡ Some e) × (net' ≡ net) × (memory' ≡ memory)

-- the checks of taking the message at a place, in order
abbrev pub take_checks : Network → ℕ → ℕ → List Check
take_checks net room place =
    (not (fits net room), Memory) ∷ ((is_some net.lifted, TokenOut) ∷ ((nat_le net.len place, NoMessage) ∷ []))

-- the record with the message at a place lifted
abbrev pub lifted_at : Network → ℕ → Network
lifted_at net place = record { capacity = net.capacity; len = net.len; lifted = Some place }

-- taken: the message at the place, which is now lifted, and a token with its number
abbrev pub Taken : {M : Type 0} → Network → List M → ℕ → Result (M × Token) Refusal → Network → Type 0
Taken net memory place (Ok given) net' =
    (first_failed (take_checks net (length memory) place) ≡ None)
    × (given.0 ≡ slice_index_or memory place given.0) × (given.1.place ≡ place) × (net' ≡ lifted_at net place)
Taken net memory place (Err e) net' =
    (first_failed (take_checks net (length memory) place) ≡ Some e) × (net' ≡ net)

-- looked at: the message at the place, and the network as it was
abbrev pub Peeked : {M : Type 0} → Network → List M → ℕ → Result M Refusal → Network → Type 0
Peeked net memory place (Ok message) net' =
    (first_failed (take_checks net (length memory) place) ≡ None) × (message ≡ slice_index_or memory place message) × (net' ≡ net)
Peeked net memory place (Err e) net' =
    (first_failed (take_checks net (length memory) place) ≡ Some e) × (net' ≡ net)

-- the first len entries without the one at a place; what lies from len - 1 on stays
abbrev pub closed : {M : Type 0} → List M → ℕ → ℕ → List M
closed memory place len = remove (take len memory) place ++ drop (len - 1) memory

-- the record once the lifted message is gone
abbrev pub without : Option ℕ → Network → Network
without None net = net
without (Some place) net = record { capacity = net.capacity; len = net.len - 1; lifted = None }

-- the memory once the message lifted at a place is gone
abbrev pub closed_at : {M : Type 0} → Option ℕ → ℕ → List M → List M
closed_at None len memory = memory
closed_at (Some place) len memory = closed memory place len

-- settled: the lifted message is gone, if there is one and the record goes with the memory
abbrev pub settled : Network → ℕ → Network
settled net room = cond (fits net room) (without net.lifted net) net

-- the memory once the lifted message is settled
abbrev pub closed_up : {M : Type 0} → Network → List M → List M
closed_up net memory = cond (fits net (length memory)) (closed_at net.lifted net.len memory) memory

-- put back: nothing is lifted, if the record goes with the memory
abbrev pub restored : Network → ℕ → Network
restored net room = cond (fits net room) (record { capacity = net.capacity; len = net.len; lifted = None }) net

-- nothing is lifted, and there is room for so many messages more
pub record Room (net : Network) (room more : ℕ) : Type 0 where
  pub sizes : sized net.capacity room ≡ true
  pub none_lifted : net.lifted ≡ None
  pub left : net.len + more ≤ net.capacity

-- sent: the messages stand behind the others in their order, and the rest of the memory is as it was
pub record Sent {M : Type 0} (net : Network) (memory messages : List M) (net' : Network) (memory' : List M) : Type 0 where
  pub record_after : net' ≡ record { capacity = net.capacity; len = net.len + length messages; lifted = net.lifted }
  pub queue_after : queue net' memory' ≡ queue net memory ++ messages
  pub rest_after : drop net'.len memory' ≡ drop net'.len memory
  pub length_after : length memory' ≡ length memory
