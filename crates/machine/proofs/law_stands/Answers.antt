use Rattle.machine.proofs.ProtocolLaw.{run_law}
use Rattle.machine.proofs.law_stands.Goals as goal

-- src/lib.rt:7:1
pub returns : goal.returns
returns g c K L calls = run_law K L calls
