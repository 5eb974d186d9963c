-- `compaction::trees::handle_in` meets its contract.
-- Assumes nothing.
use Rattle.compaction.proofs.Reading.{slot-in, nodes-few, word_fits, handle-read}
use native.Mathlib.Omega.{arith}
use lib.ListN.{length}
use Rattle.compaction.proofs.trees.handle_in.Goals as goal

pub generation-requires : goal.generation-requires
generation-requires c =
    slot-in c.args.view.now.document c.args.view.now.words.now c.args.slot.0 c.requires

pub overflow_mul-result : goal.overflow_mul-result
overflow_mul-result c =
    omega (arith, word_fits c.args.view.now.document c.args.view.now.words.now c.args.slot.0 c.requires _ c.generation.ensures)

pub overflow_add-result : goal.overflow_add-result
overflow_add-result c =
    let n = slot-in c.args.view.now.document c.args.view.now.words.now c.args.slot.0 c.requires in
    omega (arith, nodes-few c.args.view.now.document (length c.args.view.now.words.now) c.args.view.now.fits, word_fits c.args.view.now.document c.args.view.now.words.now c.args.slot.0 c.requires _ c.generation.ensures)

pub returns : goal.returns
returns c =
    handle-read c.args.view.now.document c.args.view.now.words.now c.args.slot.0 c.requires _ c.generation.ensures
