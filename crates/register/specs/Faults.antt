-- The checks of calls on faulty servers, over the record alone.
use Rattle.std.specs.Prelude.{ℕ, ◌-◌, Bool, not, [], ◌∷◌, Option, nat_lt}
use Rattle.calls.specs.Refusals.{first_failed}
use Rattle.calls.specs.declared.Refusal.{Refusal}
use Rattle.calls.specs.declared.Refusal.TheVariants.{NoClient, NoServer, NetworkFull, NotFailProne, ServerCorrect, NotServerKind}
use Rattle.network.specs.Kinds.{kind_of}
use Rattle.protocol.specs.Protocol.{may_be_sent}
use Rattle.quorums.specs.Sets.{members}
use Rattle.quorums.specs.declared.sets.ServerSet.{ServerSet}

-- why a server of n may not turn faulty, if it may not; these are then the faulty ones
abbrev pub turn_refusal : ℕ → ((ℕ → Bool) → Bool) → ℕ → ServerSet → Option Refusal
turn_refusal n fail_prone server faulty = first_failed ((not (nat_lt server n), NoServer) ∷ ((not (fail_prone (members faulty)), NotFailProne) ∷ []))

-- why a message that names a server of n and a client of m is not sent by a faulty server, if it is not
abbrev pub forge_refusal : (n m capacity len : ℕ) → ServerSet → (server client kind : ℕ) → Option Refusal
forge_refusal n m capacity len faulty server client kind =
    first_failed
    ((not (nat_lt server n), NoServer)
    ∷ ((not (nat_lt client m), NoClient)
    ∷ ((not (members faulty server), ServerCorrect)
    ∷ ((not (may_be_sent (kind_of kind)), NotServerKind)
    ∷ ((nat_lt (capacity - len) 1, NetworkFull) ∷ [])))))
