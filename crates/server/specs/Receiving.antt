-- A server's memory as the protocol sees it, and a message received there.
use Rattle.std.specs.Prelude.{◌≡◌, ℕ, ◌-◌, Bool, not, ◌||◌, List, [], ◌∷◌, length, is_some, Some, None, Ok, Err, Option, Result, nat_le, nat_lt, slice_index_or}
use Rattle.calls.specs.Refusals.{Check, first_failed}
use Rattle.calls.specs.declared.Refusal.{Refusal}
use Rattle.calls.specs.declared.Refusal.TheVariants.{Memory, NetworkFull, TokenOut}
use Rattle.network.specs.Queues.{fits, Sent}
use Rattle.network.specs.declared.message.Message.{Message}
use Rattle.network.specs.declared.queue.Network.{Network}
use Rattle.server.specs.Serving.{ServerState, Reaction, silent, reaction}
use Rattle.server.specs.declared.state.Listener.{Listener}
use Rattle.server.specs.declared.state.Server.{Server}

-- the listener of each client in a row of listeners, client 0 first; a client past the row is silent
abbrev pub listener_in : {S : Type 0} → S → List (Listener S) → ℕ → Listener S
listener_in lowest row client = slice_index_or row client (silent lowest)

-- a server and its row of listeners, as the protocol sees them
abbrev pub state_of : {S V : Type 0} → S → Server S V → List (Listener S) → ServerState S V
state_of lowest server row = record { timestamp = server.timestamp; value = server.value; listener = listener_in lowest row }

-- server and listeners are as a reaction says, and what it sends is sent
pub record Reacted {S V : Type 0} (lowest : S) (net : Network) (memory : List (Message S V)) (r : Reaction S V) (server' : Server S V) (row' : List (Listener S)) (net' : Network) (memory' : List (Message S V)) : Type 0 where
  pub state_after : state_of lowest server' row' ≡ r.after
  pub sent_after : Sent net memory r.sent net' memory'

-- the check that a client is in a row of so many clients, within the limits
abbrev pub row_checks : (clients client : ℕ) → List Check
row_checks clients client = (nat_lt 64 clients || nat_le clients client, Memory) ∷ []

-- the checks of a message received, in order: memory, limits and the client; a lifted message; room
abbrev pub receive_checks : Network → (room clients client sending : ℕ) → List Check
receive_checks net room clients client sending =
    (not (fits net room) || (nat_lt 64 clients || nat_le clients client), Memory)
    ∷ ((is_some net.lifted, TokenOut) ∷ ((nat_lt (net.capacity - net.len) sending, NetworkFull) ∷ []))

module _ {S V : Type 0} (above : S → S → Bool) (lowest : S) (initial : V) where
  -- how a server and its row react to a message
  abbrev pub reacts : Bool → Server S V → List (Listener S) → Message S V → Reaction S V
  reacts faulty server row m = reaction above lowest initial faulty (length row) (state_of lowest server row) m

  -- why a message is refused, if it is
  abbrev pub refusal : Bool → Server S V → List (Listener S) → Network → List (Message S V) → Message S V → Option Refusal
  refusal faulty server row net memory m =
      first_failed (receive_checks net (length memory) (length row) m.client (length (reacts faulty server row m).sent))

  -- received: all is as the reaction says; refused: all is as it was
  abbrev pub Received : Bool → Server S V → List (Listener S) → Network → List (Message S V) → Message S V
      → Result Unit Refusal → Server S V → List (Listener S) → Network → List (Message S V) → Type 0
  Received faulty server row net memory m (Ok _) server' row' net' memory' =
      (refusal faulty server row net memory m ≡ None) × Reacted lowest net memory (reacts faulty server row m) server' row' net' memory'
  Received faulty server row net memory m (Err e) server' row' net' memory' =
      (refusal faulty server row net memory m ≡ Some e) × (server' ≡ server) × (row' ≡ row) × (net' ≡ net) × (memory' ≡ memory)
