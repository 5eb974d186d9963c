-- `edits::moves::attach_last` meets its contract.
-- Assumes nothing.
use native.Mathlib.Omega.{arith}
use Rattle.records.specs.Handles.{word_of}
use Rattle.layout.specs.Layout.{which_of}
use Rattle.edits.proofs.Lists.{owner-slot, last_step}
use Rattle.edits.proofs.moves.attach_last.Goals as goal

pub block_of-block-requires : goal.block_of-block-requires
block_of-block-requires c =
    let a = c.args in
    rw c.view.ensures.0 (owner-slot a.lent.now.document a.lent.now.words.now (which_of a.arena) a.parent (omega (arith, c.well_formed)) (word_of a.id) c.requires)

pub returns : goal.returns
returns c =
    let a = c.args in
    let found = c.block_of-block in
    let linked = c.attach in
    record {
      step =
          last_step a.lent.now.document a.lent.now.words.now (which_of a.arena) a.parent (omega (arith, c.well_formed)) (word_of a.id) c.requires found.result (rw (c.view.ensures.0, c.view.ensures.1) at found.ensures)
          linked.new.lent.document _ linked.ensures.step;
      reference = linked.ensures.reference;
    }
