-- What holds of the machine after every run.
use Rattle.std.proofs.Common.{◌≡◌, ℕ, ◌<◌, Bool, true, false, ◌⊎◌, Some, None, Option}
use Rattle.protocol.specs.Settings.{Setting}
use Rattle.protocol.specs.Clients.{idle}
use Rattle.protocol.specs.Runs.{In, Before}
use Rattle.machine.proofs.Machine.{Msg, begun, chose, finished, State, server_of}

-- what holds of a register with this history
pub record Laws {S V : Type 0} (K : Setting S V) (σ : State S V) : Type 0 where
  -- a write begun after an operation finished has the higher timestamp
  pub later_write_above : (c₁ k₁ c k : ℕ) (s₁ s : S) (o₁ : Option V) (v v' : V) (q₁ : ℕ → Bool) →
      Before (finished c₁ k₁ s₁ o₁ q₁) (begun c k (Some v')) σ.history → In (chose c k s v) σ.history → K.rules.above s s₁ ≡ true
  -- a read begun after an operation finished has no lower timestamp
  pub later_read_not_below : (c₁ k₁ c k : ℕ) (s₁ s : S) (o₁ : Option V) (v : V) (q₁ q : ℕ → Bool) →
      Before (finished c₁ k₁ s₁ o₁ q₁) (begun c k None) σ.history → In (finished c k s (Some v) q) σ.history → K.rules.above s₁ s ≡ false
  -- no two writes have one timestamp
  pub timestamps_differ : (c k c' k' : ℕ) (s : S) (v v' : V) →
      In (chose c k s v) σ.history → In (chose c' k' s v') σ.history → (c ≡ c') × (k ≡ k') × (v ≡ v')
  -- a write has one timestamp
  pub chosen_once : (c k : ℕ) (s s' : S) (v v' : V) → In (chose c k s v) σ.history → In (chose c k s' v') σ.history → s ≡ s'
  -- a write that finished chose its timestamp before
  pub finished_write_chosen : (c k : ℕ) (s : S) (q : ℕ → Bool) →
      In (finished c k s None q) σ.history → (v : V) × Before (chose c k s v) (finished c k s None q) σ.history
  -- a write that chose a timestamp began before, with its value
  pub chosen_was_begun : (c k : ℕ) (s : S) (v : V) → In (chose c k s v) σ.history → Before (begun c k (Some v)) (chose c k s v) σ.history
  -- a read that finished began before
  pub finished_read_began : (c k : ℕ) (s : S) (v : V) (q : ℕ → Bool) →
      In (finished c k s (Some v) q) σ.history → Before (begun c k None) (finished c k s (Some v) q) σ.history
  -- a read that finished gives the initial pair, or one that a write chose before
  pub read_genuine : (c k : ℕ) (s : S) (v : V) (q : ℕ → Bool) → In (finished c k s (Some v) q) σ.history →
      ((s ≡ K.lowest) × (v ≡ K.initial)) ⊎ ((c' : ℕ) × (k' : ℕ) × Before (chose c' k' s v) (finished c k s (Some v) q) σ.history)
  -- if no message is under way to or from a correct server, no client has an operation open
  pub quiet_is_done : ((m : Msg S V) → In m σ.queue → σ.faulty (server_of m) ≡ true) → (c : ℕ) → c < K.client_count → (σ.clients c).phase ≡ idle
