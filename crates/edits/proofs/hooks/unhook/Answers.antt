-- `edits::hooks::unhook` meets its contract.
-- Assumes nothing.
use mathlib.Core.Path.{◌∙◌}
use Rattle.records.specs.Handles.{word_of}
use Rattle.edits.proofs.Moved.{unlinked-node, unhook-step}
use Rattle.edits.proofs.hooks.unhook.Goals as goal

pub set_parent-requires : goal.set_parent-requires
set_parent-requires c =
    let a = c.args in
    let unlinked = c.unlink in
    (unlinked-node a.lent.now.document a.lent.now.words.now (word_of a.id) unlinked.new.lent.document _ unlinked.ensures.step c.requires.node, Prim.tt)

pub returns : goal.returns
returns c =
    let a = c.args in
    let unlinked = c.unlink in
    let alone = c.set_parent in
    record { step = unhook-step a.lent.now.document a.lent.now.words.now (word_of a.id) unlinked.new.lent.document _ unlinked.ensures.step alone.new.lent.document _ alone.ensures.step; reference = alone.ensures.reference ∙ unlinked.ensures.reference }
