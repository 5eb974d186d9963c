-- `slots::region::store_record` meets its contract. The twelve words are lent as a part and come back.
-- Assumes nothing.
use Rattle.slots.proofs.Storing.{record-written}
use Rattle.slots.proofs.region.store_record.Goals as goal

pub returns : goal.returns
returns c = record-written _ _ _ _ _ c.write_record.ensures
