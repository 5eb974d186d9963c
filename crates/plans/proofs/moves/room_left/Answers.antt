-- `plans::moves::room_left` meets its contract.
-- Assumes nothing.
use Rattle.lookup.proofs.Kept.{kept}
use native.Mathlib.Omega.{arith}
use mathlib.Core.Path.{refl, sym, ◌∙◌}
use Rattle.blocks.specs.Arena.{Block}
use Rattle.blocks.specs.Answer.{has_room_after_removal}
use Rattle.records.specs.Handles.{word_of}
use Rattle.model.specs.Kinds.{children}
use Rattle.memory.specs.Decode.{arena_in}
use Rattle.lookup.proofs.Blocks.{block_held, block-found, block-stale}
use Rattle.plans.proofs.moves.room_left.Goals as goal

pub block_left_fits-requires : goal.block_left_fits-requires
block_left_fits-requires c = block_held c.args.doc.now.view.document c.args.doc.now.view.words.now c.args.parent (omega (arith, c.well_formed)) (omega (arith, c.well_formed)) children _ (sym c.resolve.ensures ∙ c.in-Some.is) _ refl (kept c.args.doc.now)

pub returns-in-Some : goal.returns-in-Some
returns-in-Some c = block-found c.args.doc.now.view.document c.args.doc.now.view.words.now c.args.parent (omega (arith, c.well_formed)) (omega (arith, c.well_formed)) children _ (sym c.resolve.ensures ∙ c.in-Some.is) _ refl (λ (b : Block). has_room_after_removal (arena_in c.args.doc.now.view.document children c.args.doc.now.view.words.now) b (word_of c.args.child)) _ (rw c.from.ensures at c.block_left_fits.ensures)

pub returns-in-None : goal.returns-in-None
returns-in-None c = block-stale c.args.doc.now.view.document c.args.doc.now.view.words.now c.args.parent (omega (arith, c.well_formed)) (omega (arith, c.well_formed)) children (λ (b : Block). has_room_after_removal (arena_in c.args.doc.now.view.document children c.args.doc.now.view.words.now) b (word_of c.args.child)) (sym c.resolve.ensures ∙ c.in-None.is)
