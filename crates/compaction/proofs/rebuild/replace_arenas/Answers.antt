-- `compaction::rebuild::replace_arenas` meets its contract.
-- Assumes nothing.
use Rattle.model.specs.Kinds.{attributes, namespaces}
use Rattle.compaction.proofs.rebuild.replace_arenas.Goals as goal

pub replace_blocks-requires-2 : goal.replace_blocks-requires-2
replace_blocks-requires-2 c = rw c.replace_blocks.ensures.record_is (c.requires attributes)

pub replace_blocks-requires-3 : goal.replace_blocks-requires-3
replace_blocks-requires-3 c = rw (c.replace_blocks-2.ensures.record_is, c.replace_blocks.ensures.record_is) (c.requires namespaces)
