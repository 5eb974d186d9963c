-- `memory::lent::Lent::put_record` meets its contract.
-- Assumes nothing.
use Rattle.layout.proofs.Sizes.{memory-same}
use Rattle.memory.proofs.lent.Lent.put_record.Goals as goal

pub invariant_of-self : goal.invariant_of-self
invariant_of-self c = record { fits = memory-same _ _ _ c.requires c.args.self.now.fits }
