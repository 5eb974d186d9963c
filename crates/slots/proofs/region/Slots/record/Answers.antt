-- `slots::region::Slots::record` meets its contract. The twelve words are lent as a part.
-- Assumes nothing.
use Rattle.slots.proofs.Storing.{record-read}
use Rattle.slots.proofs.region.Slots.record.Goals as goal

pub returns : goal.returns
returns c = record-read _ _ _ _ c.read_record.ensures
