-- `room::full::block_fits` meets its contract.
-- Assumes nothing.
use Rattle.layout.specs.Layout.{which_of}
use Rattle.memory.proofs.Cuts.{held-shown}
use Rattle.room.proofs.full.block_fits.Goals as goal

pub room_for-requires : goal.room_for-requires
room_for-requires c =
    let v = c.args.view.now in
    let w = c.arena_words.ensures in
    rw c.block_in.ensures (held-shown v.document v.words.now (which_of c.args.arena) _ _ _ w.0 w.1 c.arena_used.ensures _ _ c.requires)
