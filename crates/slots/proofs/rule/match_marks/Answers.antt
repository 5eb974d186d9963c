-- `slots::rule::match_marks` meets its contract.
-- Assumes nothing.
use Rattle.slots.proofs.FreeRule.{match_none, match-not, match-next}
use Rattle.slots.proofs.rule.match_marks.Goals as goal

pub loop-s-init : goal.loop-s-init
loop-s-init c = match_none _ _ 0

pub returns-then-marks-s : goal.returns-then-marks-s
returns-then-marks-s c = match-not c.args.generations.now c.args.marks.now _ c.loop-s-test.true c.if-marks-s.true

pub loop-s-preserved : goal.loop-s-preserved
loop-s-preserved c = match-next _ _ _ c.loop-s.invariant c.if-marks-s.false
