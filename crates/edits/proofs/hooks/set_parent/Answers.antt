-- `edits::hooks::set_parent` meets its contract.
-- Assumes nothing.
use mathlib.Core.Path.{ap, ◌∙◌}
use native.Mathlib.Omega.{arith}
use Rattle.layout.specs.Record.{outdated}
use Rattle.edits.proofs.Composed.{stepped}
use Rattle.edits.proofs.Moved.{node-slot, parent-step}
use Rattle.edits.proofs.hooks.set_parent.Goals as goal

pub put_parent-requires : goal.put_parent-requires
put_parent-requires c =
    let a = c.args in
    node-slot a.lent.now.document a.lent.now.words.now a.id (omega (arith, c.well_formed)) c.requires.0

pub returns : goal.returns
returns c =
    let a = c.args in
    let put = c.put_parent.ensures in
    stepped _ _ _ _ _ _ put.reference c.put_record.ensures
    (parent-step a.lent.now.document a.lent.now.words.now a.id (omega (arith, c.well_formed)) c.requires.0 a.parent c.requires.1 _ put.words_are _ (c.outdated.ensures ∙ ap outdated put.record_is))
