-- `blocks::arena::ArenaWords::room_for` meets its contract.
-- Assumes nothing.
use Rattle.blocks.proofs.Inserts.{room-read}
use Rattle.blocks.proofs.arena.ArenaWords.room_for.Goals as goal

pub returns : goal.returns
returns c = room-read _ _ _ _ _ c.requires _ (c.entries_for.ensures _)
