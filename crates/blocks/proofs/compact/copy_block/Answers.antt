-- `blocks::compact::copy_block` meets its contract.
-- Assumes nothing.
use Rattle.blocks.proofs.Copies.{block-copied}
use Rattle.blocks.proofs.compact.copy_block.Goals as goal

pub returns : goal.returns
returns c =
    let pre = c.requires in
    block-copied _ _ pre.arena_len _ _ _ pre.len_bound.0 pre.len_bound.1 _ c.copy.ensures
