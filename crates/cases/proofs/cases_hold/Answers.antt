use Rattle.cases.proofs.Proved.{cases}
use Rattle.cases.proofs.cases_hold.Goals as goal

pub returns : goal.returns
returns c = record { count = c.count.ensures; hold = cases }
