-- What a register is made over.
use Rattle.std.specs.Prelude.{ℕ, Option}
use Rattle.quorums.specs.Laws.{QuorumLaws}
use Rattle.timestamps.specs.Laws.{TimestampLaws}
use Rattle.values.specs.Laws.{ValueLaws}
use Rattle.quorums.specs.declared.QuorumSystem.{Ghosts as QuorumGhosts}
use Rattle.timestamps.specs.declared.Timestamp.{Ghosts as TimestampGhosts}
use Rattle.values.specs.declared.Value.{Ghosts as ValueGhosts}
use Rattle.reading.specs.Readings.{Rules, rules_of}

-- how many clients there are, how many messages the queue holds, the highest operation number, and the meanings of the three kinds
pub record Setting (S V : Type 0) : Type 0 where
  pub client_count : ℕ
  pub capacity : ℕ
  pub most : ℕ
  pub rules : Rules S V
  pub owner : S → ℕ
  pub lowest : S
  pub successor : ℕ → S → S → Option S
  pub initial : V

-- the setting of so many clients, a capacity, a highest number and three kinds
abbrev pub setting : {S V : Type 0} → (client_count capacity most : ℕ) → Rules S V → (S → ℕ) → S → (ℕ → S → S → Option S) → V → Setting S V
setting client_count capacity most rules owner lowest successor initial =
    record { client_count = client_count; capacity = capacity; most = most; rules = rules; owner = owner; lowest = lowest; successor = successor; initial = initial }

-- the setting of a quorum system, a kind of timestamps and a kind of values, with so many clients, a capacity and a highest number
abbrev pub setting_of : {Q S V : Type 0} → QuorumGhosts Q → TimestampGhosts S → ValueGhosts V → Q → (client_count capacity most : ℕ) → Setting S V
setting_of quorums timestamps values system client_count capacity most =
    setting client_count capacity most (rules_of quorums timestamps values system) timestamps.owner timestamps.lowest timestamps.successor values.initial_value

-- the three kinds have their laws
pub record Lawful {S V : Type 0} (K : Setting S V) : Type 0 where
  pub quorums : QuorumLaws K.rules.n K.rules.quorum K.rules.fail_prone
  pub timestamps : TimestampLaws K.rules.above K.owner K.lowest K.successor
  pub values : ValueLaws K.rules.same
