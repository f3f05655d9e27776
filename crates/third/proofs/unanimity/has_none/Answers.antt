use Rattle.std.proofs.Common.{◌∙◌, refl, rules, tests, arith}
use Rattle.std.proofs.lemmas.Iterator.{YieldsList-from_range}
use Rattle.std.proofs.lemmas.Iterator.Search.{all_from_yields_List}
use Rattle.quorums.specs.Sets.{members, outside}
use Rattle.third.proofs.Each.{each_in_order}
use Rattle.third.proofs.unanimity.has_none.Goals as goal

pub returns : goal.returns
returns c =
    let n = c.args.n in
    let s = outside (members c.args.set) in
    all_from_yields_List s _ _ c.all.result c.all.ensures.ran (YieldsList-from_range 0 n n refl (omega arith)) (λ x b q k. search (rules, tests)) ∙ each_in_order n s
