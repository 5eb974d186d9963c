-- `room::full::slot_fits` meets its contract.
-- Assumes nothing.
use Rattle.room.proofs.Room.{slot-fits}
use Rattle.room.proofs.full.slot_fits.Goals as goal

pub returns : goal.returns
returns c = slot-fits c.args.d _ _ _ c.made.ensures c.free.ensures c.has_slot.ensures
