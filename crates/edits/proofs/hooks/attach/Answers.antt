-- `edits::hooks::attach` meets its contract.
-- Assumes nothing.
use native.Mathlib.Omega.{arith}
use Rattle.records.specs.Handles.{word_of}
use Rattle.layout.specs.Layout.{which_of}
use Rattle.edits.proofs.Composed.{stepped}
use Rattle.edits.proofs.Moved.{owner-open, attach-step}
use Rattle.edits.proofs.hooks.attach.Goals as goal

pub insert_entry-requires : goal.insert_entry-requires
insert_entry-requires c =
    let a = c.args in
    let adopted = c.set_parent in
    owner-open a.lent.now.document a.lent.now.words.now (which_of a.arena) (word_of a.id) a.parent (omega (arith, c.well_formed)) adopted.new.lent.document _ adopted.ensures.step c.requires

pub returns : goal.returns
returns c =
    let a = c.args in
    let adopted = c.set_parent in
    stepped _ _ _ _ _ _ adopted.ensures.reference c.insert_entry.ensures
    (attach-step a.lent.now.document a.lent.now.words.now (which_of a.arena) (word_of a.id) a.parent (omega (arith, c.well_formed)) adopted.new.lent.document _ adopted.ensures.step c.requires a.at _ c.from.ensures)
