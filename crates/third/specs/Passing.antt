-- A message through a network to a server.
use Rattle.std.specs.Prelude.{◌≡◌, ℕ, Bool, false, List, length, Some, None, Ok, Err, Option, Result, slice_index_or, slice_set}
use Rattle.calls.specs.Refusals.{first_failed}
use Rattle.calls.specs.declared.Refusal.{Refusal}
use Rattle.network.specs.Queues.{post_checks, take_checks, lifted_at, settled, closed_up}
use Rattle.network.specs.declared.message.Message.{Message}
use Rattle.network.specs.declared.queue.Network.{Network}
use Rattle.server.specs.Receiving.{Received}
use Rattle.server.specs.declared.state.Listener.{Listener}
use Rattle.server.specs.declared.state.Server.{Server}

-- taken out: the message at the place, which is lifted and settled; refused as a take is
abbrev pub TakenOut : {M : Type 0} → Network → List M → ℕ → Result M Refusal → Network → List M → Type 0
TakenOut net memory place (Ok taken) net' memory' =
    (first_failed (take_checks net (length memory) place) ≡ None) × (taken ≡ slice_index_or memory place taken)
    × (net' ≡ settled (lifted_at net place) (length memory)) × (memory' ≡ closed_up (lifted_at net place) memory)
TakenOut net memory place (Err e) net' memory' =
    (first_failed (take_checks net (length memory) place) ≡ Some e) × (net' ≡ net) × (memory' ≡ memory)

-- passed: the message comes out, the queue is as it was, and the place behind it holds the message; refused as a post is
abbrev pub Passed : {M : Type 0} → Network → List M → M → Result M Refusal → Network → List M → Type 0
Passed net memory m (Ok taken) net' memory' =
    (first_failed (post_checks net (length memory)) ≡ None) × (taken ≡ m) × (net' ≡ net) × (memory' ≡ slice_set memory net.len m)
Passed net memory m (Err e) net' memory' =
    (first_failed (post_checks net (length memory)) ≡ Some e) × (net' ≡ net) × (memory' ≡ memory)

module _ {S V : Type 0} (above : S → S → Bool) (lowest : S) (initial : V) where
  -- a message that is not refused on its way is received by the correct server; else all is as it was
  abbrev pub Arrived : Option Refusal → Server S V → List (Listener S) → Network → List (Message S V) → Message S V
      → Result Unit Refusal → Server S V → List (Listener S) → Network → List (Message S V) → Type 0
  Arrived (Some e) server row net memory m r server' row' net' memory' =
      (r ≡ Err e) × (server' ≡ server) × (row' ≡ row) × (net' ≡ net) × (memory' ≡ memory)
  Arrived None server row net memory m r server' row' net' memory' =
      Received above lowest initial false server row net (slice_set memory net.len m) m r server' row' net' memory'

  -- delivered: posted, taken, settled, and received
  abbrev pub Delivered : Server S V → List (Listener S) → Network → List (Message S V) → Message S V
      → Result Unit Refusal → Server S V → List (Listener S) → Network → List (Message S V) → Type 0
  Delivered server row net memory m r server' row' net' memory' =
      Arrived (first_failed (post_checks net (length memory))) server row net memory m r server' row' net' memory'
