-- `blocks::compact::replace_blocks` meets its contract.
-- Assumes nothing.
use Rattle.blocks.proofs.Copies.{blocks-replaced}
use Rattle.blocks.proofs.compact.replace_blocks.Goals as goal

pub returns : goal.returns
returns c =
    blocks-replaced c.args.arena.now _ c.requires.0 _ _ _ c.requires.1 c.copy.ensures c.fill.ensures
