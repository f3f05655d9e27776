use Rattle.std.proofs.Common.{◌-◌, length}
use Rattle.client.proofs.listening.+try_value.Given as goal

abbrev pub decreases-try_value : goal.decreases-try_value
decreases-try_value g l = length l.part.now - l.i
