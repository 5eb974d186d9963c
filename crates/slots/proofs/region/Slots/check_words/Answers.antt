-- `slots::region::Slots::check_words` meets its contract.
-- Assumes nothing.
use Rattle.slots.proofs.WordsRule.{words-none, words-next, words-not}
use Rattle.slots.proofs.region.Slots.check_words.Goals as goal

pub loop-s-init : goal.loop-s-init
loop-s-init c = words-none _ _

pub returns-then-not-slot_fits : goal.returns-then-not-slot_fits
returns-then-not-slot_fits c = words-not _ _ _ _ _ c.loop-s-test.true c.slot_fits.ensures c.if-not-slot_fits.true

pub loop-s-preserved : goal.loop-s-preserved
loop-s-preserved c = words-next _ _ _ _ c.loop-s.invariant c.slot_fits.ensures c.if-not-slot_fits.false
