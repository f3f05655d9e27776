-- What goes from a client to the servers, sent.
use Rattle.std.specs.Prelude.{◌≡◌, ℕ, List, length, Some, None, Ok, Err, Result}
use Rattle.calls.specs.Refusals.{first_failed}
use Rattle.calls.specs.declared.Refusal.{Refusal}
use Rattle.network.specs.Queues.{send_checks, Sent}
use Rattle.network.specs.declared.message.Message.{Message}
use Rattle.network.specs.declared.queue.Network.{Network}
use Rattle.client.specs.Showing.{messages_of}
use Rattle.client.specs.declared.state.Broadcast.{Broadcast}

-- sent to the n servers in their order; refused: network and memory are as they were
abbrev pub Dispatched : {S V : Type 0} → (n client : ℕ) → Broadcast S V → Network → List (Message S V) → Result Unit Refusal → Network → List (Message S V) → Type 0
Dispatched n client x net memory (Ok _) net' memory' =
    (first_failed (send_checks net (length memory) n) ≡ None) × Sent net memory (messages_of n client (Some x)) net' memory'
Dispatched n client x net memory (Err e) net' memory' =
    (first_failed (send_checks net (length memory) n) ≡ Some e) × (net' ≡ net) × (memory' ≡ memory)
