-- Memory that stays lent. Assumes nothing.
use Rattle.std.proofs.Common.{refl, ◌∙◌}
use Rattle.delivery.specs.declared.memory.Memory.{Memory}
use Rattle.delivery.specs.Memory.{SameLoans}

-- at first
pub loans_same : {S V : Type 0} (x : Memory S V) → SameLoans x x
loans_same x = record { servers = refl; clients = refl; listeners = refl; messages = refl; reports = refl }

-- after one call more
pub loans_still : {S V : Type 0} (x y z : Memory S V) → SameLoans x y → SameLoans y z → SameLoans x z
loans_still x y z a b = record {
  servers = b.servers ∙ a.servers;
  clients = b.clients ∙ a.clients;
  listeners = b.listeners ∙ a.listeners;
  messages = b.messages ∙ a.messages;
  reports = b.reports ∙ a.reports;
}
