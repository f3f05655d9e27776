use Rattle.quorums.proofs.Loops.{any_found, any_next, any_missed}
use Rattle.quorums.proofs.by_list.some_completes.Goals as goal

pub returns-then-completes : goal.returns-then-completes
returns-then-completes c = any_found _ _ _ c.loop-listed.invariant c.loop-listed-test.true _ c.if-completes.ensures

pub loop-listed-preserved : goal.loop-listed-preserved
loop-listed-preserved c = any_next _ _ _ c.loop-listed.invariant c.loop-listed-test.true _ c.if-completes.ensures

pub returns : goal.returns
returns c = any_missed _ _ _ c.loop-listed.invariant c.loop-listed-test.false
