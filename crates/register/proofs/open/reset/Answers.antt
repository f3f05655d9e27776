use Rattle.std.proofs.Common.{◌≡◌, ◌++◌, append-nil, drop, length, replicate, set, take, refl, ap, ◌∙◌, arith}
use Rattle.std.proofs.lemmas.List.{drop_all, length-take-le}
use Rattle.register.proofs.Opening.{reset_more}
use Rattle.register.proofs.open.reset.Goals as goal

pub loop-entry-init : goal.loop-entry-init
loop-entry-init g c = refl

pub loop-entry-preserved : goal.loop-entry-preserved
loop-entry-preserved g c =
    let first = take c.args.count c.args.memory.now in
    ap (λ l. set l c.loop-entry.entry-index c.args.value) c.loop-entry.invariant
    ∙ reset_more first c.loop-entry.entry-index c.args.value (omega (arith, c.loop-entry-test.true))

pub returns : goal.returns
returns g c =
    let first = take c.args.count c.args.memory.now in
    let long : length first ≡ c.args.count = length-take-le c.args.count c.args.memory.now c.requires in
    let i = c.loop-entry.entry-index in
    let ends : i ≡ c.args.count = omega (arith, long, c.loop-entry-test.false, c.loop-entry.auto.entry-index-end) in
    ap (λ l. l ++ drop c.args.count c.args.memory.now)
    (c.loop-entry.invariant ∙ ap (λ l. replicate i c.args.value ++ l) (drop_all i first (omega (arith, long, ends)))
    ∙ append-nil (replicate i c.args.value) ∙ ap (λ k. replicate k c.args.value) ends)
