-- `room::full::room_fits` meets its contract.
-- Assumes nothing.
use native.Mathlib.Omega.{arith}
use mathlib.Core.Path.{sym, ◌∙◌}
use Rattle.blocks.specs.Arena.{has_room}
use Rattle.layout.specs.Layout.{which_of}
use Rattle.memory.specs.Decode.{arena_in}
use Rattle.lookup.proofs.Kept.{kept}
use Rattle.lookup.proofs.Blocks.{block_held, block-found, block-stale}
use Rattle.room.proofs.full.room_fits.Goals as goal

pub block_fits-requires : goal.block_fits-requires
block_fits-requires c = block_held _ _ c.args.id (omega arith) (omega arith) (which_of c.args.arena) _ (sym c.resolve.ensures ∙ c.in-Some.is) _ c.range_of.ensures (kept c.args.doc.now)

pub returns-in-Some : goal.returns-in-Some
returns-in-Some c = let v = c.args.doc.now.view in block-found v.document v.words.now c.args.id (omega (arith, c.well_formed)) (omega (arith, c.well_formed)) (which_of c.args.arena) _ (sym c.resolve.ensures ∙ c.in-Some.is) _ c.range_of.ensures (has_room (arena_in v.document (which_of c.args.arena) v.words.now)) _ c.block_fits.ensures

pub returns-in-None : goal.returns-in-None
returns-in-None c = let v = c.args.doc.now.view in block-stale v.document v.words.now c.args.id (omega arith) (omega arith) (which_of c.args.arena) (has_room (arena_in v.document (which_of c.args.arena) v.words.now)) (sym c.resolve.ensures ∙ c.in-None.is)
