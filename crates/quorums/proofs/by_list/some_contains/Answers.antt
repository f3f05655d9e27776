use Rattle.quorums.proofs.Loops.{any_found, any_next, any_missed}
use Rattle.quorums.proofs.by_list.some_contains.Goals as goal

pub returns-then-is_part_of : goal.returns-then-is_part_of
returns-then-is_part_of c = any_found _ _ _ c.loop-listed.invariant c.loop-listed-test.true _ c.if-is_part_of.ensures

pub loop-listed-preserved : goal.loop-listed-preserved
loop-listed-preserved c = any_next _ _ _ c.loop-listed.invariant c.loop-listed-test.true _ c.if-is_part_of.ensures

pub returns : goal.returns
returns c = any_missed _ _ _ c.loop-listed.invariant c.loop-listed-test.false
