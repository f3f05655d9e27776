use Rattle.std.proofs.Common.{◌∙◌}
use Rattle.values.specs.PriceLaws.{bits_structure}
use Rattle.values.proofs.price_line.same_price.Goals as goal

pub returns : goal.returns
returns c = record {
  structural = c.bits_agree.ensures ∙ bits_structure c.args.x c.args.y c.well_formed.0.1 c.well_formed.1.0.1;
  by_bits = c.bits_agree.ensures;
}
