-- `room::full::texts_fit` meets its contract.
-- Assumes nothing.
use Rattle.room.proofs.full.texts_fit.Goals as goal

pub texts_fit-requires : goal.texts_fit-requires
texts_fit-requires c = rw (c.text_limits.ensures, c.text_counts.ensures) c.requires

pub returns : goal.returns
returns c = rw (c.text_limits.ensures, c.text_counts.ensures) at c.texts_fit.ensures
