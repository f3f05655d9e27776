use Rattle.values.specs.TotalValues.{no_pence}
use Rattle.values.specs.TotalLaws.{total_equal}
use Rattle.values.proofs.total_value.TotalValue.initial.Goals as goal

pub returns : goal.returns
returns c = total_equal _ no_pence c.zero.ensures
