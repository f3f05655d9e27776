use Rattle.std.proofs.Common.{rules, ◌≡◌}
use Rattle.timestamps.specs.Laws.{higher}
use Rattle.timestamps.specs.PairedOrder.{paired_above}
use Rattle.timestamps.specs.PairedLaws.{made_next}
use Rattle.timestamps.proofs.paired_order.PairedTimestamp.next.Goals as goal

pub returns-clause-exact : goal.returns-clause-exact
returns-clause-exact c =
    let top : c.max.result ≡ higher paired_above c.args.a c.args.b = search rules in
    made_next c.args.client c.in_ok-count_above.field-0 c.args.a c.args.b c.max.result c.new.result c.new.ensures (search rules) top
