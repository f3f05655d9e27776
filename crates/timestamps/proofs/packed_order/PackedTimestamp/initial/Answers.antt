use Rattle.timestamps.specs.PackedOrder.{packed_lowest}
use Rattle.timestamps.specs.PackedLaws.{packed_equal}
use Rattle.timestamps.proofs.packed_order.PackedTimestamp.initial.Goals as goal

pub returns : goal.returns
returns c = packed_equal _ packed_lowest c.lowest.ensures
