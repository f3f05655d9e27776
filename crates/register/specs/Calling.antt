-- What each call on a register promises.
use Rattle.std.specs.Prelude.{◌≡◌, ℕ, ◌*◌, true, false, ◌++◌, drop, replicate, None, Ok, Err, Result}
use Rattle.calls.specs.declared.Answer.{Answer}
use Rattle.calls.specs.declared.Answer.TheVariants.{Begun}
use Rattle.calls.specs.declared.Call.{Call}
use Rattle.calls.specs.declared.Call.TheVariants.{Read, Deliver}
use Rattle.calls.specs.declared.Refusal.{Refusal}
use Rattle.calls.specs.declared.Refusal.TheVariants.{Memory}
use Rattle.network.specs.declared.queue.Network.{Network}
use Rattle.quorums.specs.declared.sets.ServerSet.{ServerSet}
use Rattle.server.specs.Serving.{silent}
use Rattle.quorums.specs.declared.QuorumSystem.{Ghosts as QuorumGhosts}
use Rattle.timestamps.specs.declared.Timestamp.{Ghosts as TimestampGhosts}
use Rattle.values.specs.declared.Value.{Ghosts as ValueGhosts}
use Rattle.protocol.specs.Settings.{Setting, setting_of}
use Rattle.protocol.specs.Protocol.{State, Reply, lift, step, opened}
use Rattle.delivery.specs.Memory.{Lent, new_server, new_client, state_in, enough}
use Rattle.delivery.specs.Answering.{Called, ReportsAfter}
use Rattle.register.specs.Beginning.{BlankFor}
use Rattle.register.specs.declared.record.Register.{Register}

-- the record with another queue length and other faulty servers
abbrev pub with_queue : {Q : Type 0} → Register Q → ℕ → ServerSet → Register Q
with_queue g len faulty = record { system = g.system; clients = g.clients; capacity = g.capacity; len = len; faulty = faulty }

-- the network's own record, with no message lifted
abbrev pub network_of : {Q : Type 0} → Register Q → Network
network_of g = record { capacity = g.capacity; len = g.len; lifted = None }

-- the setting of a register over kinds of timestamps and values
abbrev pub kinds : {Q S V : Type 0} → QuorumGhosts Q → TimestampGhosts S → ValueGhosts V → Register Q → Setting S V
kinds quorums timestamps values g = setting_of quorums timestamps values g.system g.clients g.capacity 4294967295

module _ {Q S V : Type 0} (K : Setting S V) where
  -- a register and its memory as the protocol sees them
  abbrev pub state_of : Register Q → Lent S V → State S V
  state_of g x = state_in K g.len g.faulty x

  -- a call is answered as the protocol replies, or refused with 4 where the memory is not enough; the quorum system, the number of clients and the capacity stay
  pub record Replied (g : Register Q) (x : Lent S V) (reply : Reply S V) (r : Answer S V) (g' : Register Q) (x' : Lent S V) : Type 0 where
    pub called : Called K g.len g.faulty x reply r g'.len g'.faulty x'
    pub setting_kept : g' ≡ with_queue g g'.len g'.faulty

  -- what the protocol replies to a call
  abbrev pub Answers : Register Q → Lent S V → Call S V → Answer S V → Register Q → Lent S V → Type 0
  Answers g x call r g' x' = Replied g x (step K (state_of g x) call) r g' x'

  -- a read begins: where it is answered with its number, the client's reports are all none
  pub record ReadAnswers (g : Register Q) (x : Lent S V) (c : ℕ) (r : Answer S V) (g' : Register Q) (x' : Lent S V) : Type 0 where
    pub answers : Answers g x (Read c) r g' x'
    pub reports_after : (k : ℕ) → r ≡ Begun c k → BlankFor K c x.reports x'.reports

  -- a delivery: only the reports of a client that hears a VALUE change
  pub record DeliverAnswers (g : Register Q) (x : Lent S V) (place : ℕ) (r : Answer S V) (g' : Register Q) (x' : Lent S V) : Type 0 where
    pub answers : Answers g x (Deliver place) r g' x'
    pub reports_after : enough K g.len x ≡ true → ReportsAfter K (state_of g x) (lift place (state_of g x).queue) x.reports x'.reports

module _ {Q S V : Type 0} (K : Setting S V) where
  -- a register just opened: its record, and what each slice holds that it sets up; what lies past that is as it was
  pub record OpenedWith (system : Q) (x : Lent S V) (g : Register Q) (x' : Lent S V) : Type 0 where
    pub enough_before : enough K 0 x ≡ true
    pub enough_after : enough K 0 x' ≡ true
    pub record_is : g ≡ record { system = system; clients = K.client_count; capacity = K.capacity; len = 0; faulty = record { mask = 0 } }
    pub servers_after : x'.servers ≡ replicate K.rules.n (new_server K.lowest K.initial) ++ drop K.rules.n x.servers
    pub clients_after : x'.clients ≡ replicate K.client_count (new_client K.lowest) ++ drop K.client_count x.clients
    pub listeners_after : x'.listeners ≡ replicate (K.rules.n * K.client_count) (silent K.lowest) ++ drop (K.rules.n * K.client_count) x.listeners
    pub messages_kept : x'.messages ≡ x.messages
    pub reports_kept : x'.reports ≡ x.reports
    pub state_after : state_of K g x' ≡ opened K

  -- opened, or refused with 4 exactly where the memory is not enough, with nothing changed
  abbrev pub Opened : Q → Lent S V → Result (Register Q) Refusal → Lent S V → Type 0
  Opened system x (Ok g) x' = OpenedWith system x g x'
  Opened system x (Err e) x' = (enough K 0 x ≡ false) × (e ≡ Memory) × (x' ≡ x)
