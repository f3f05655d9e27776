use Rattle.timestamps.specs.PairedOrder.{paired_lowest}
use Rattle.timestamps.specs.PairedLaws.{paired_equal}
use Rattle.timestamps.proofs.paired_order.PairedTimestamp.initial.Goals as goal

pub returns : goal.returns
returns c = paired_equal _ paired_lowest c.lowest.ensures.0 c.lowest.ensures.1
