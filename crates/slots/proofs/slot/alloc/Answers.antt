-- `slots::slot::alloc` meets its contract.
-- Assumes nothing.
use Rattle.slots.proofs.Slots.{unplaced}
use Rattle.slots.proofs.slot.alloc.Goals as goal

pub returns : goal.returns
returns c = unplaced _ _ _ _ _ _ _ c.take_slot-taken.ensures c.put_order.ensures
