-- `slots::rule::count_entries` meets its contract.
-- Assumes nothing.
use Rattle.std.proofs.Common.{arith}
use Rattle.slots.proofs.FreeRule.{counting-next, counting-fits, counted-not}
use Rattle.slots.proofs.rule.count_entries.Goals as goal

pub returns-then-entry-made : goal.returns-then-entry-made
returns-then-entry-made c = counted-not _ _ _ _ _ c.loop-entry.invariant c.loop-entry-test.true c.if-entry-made.true

pub overflow_add-marks : goal.overflow_add-marks
overflow_add-marks c = omega (arith, counting-fits _ _ _ _ _ c.loop-entry.invariant _ c.loop-entry-test.true c.if-entry-made.false)

pub loop-entry-preserved : goal.loop-entry-preserved
loop-entry-preserved c = counting-next _ _ _ _ _ c.loop-entry.invariant c.loop-entry-test.true c.if-entry-made.false
