-- `steps::step::visit_entry` meets its contract.
-- Assumes nothing.
use Rattle.steps.proofs.Stepping.{entry-visited, entry-refused}
use Rattle.memory.specs.Decode.{block_of}
use mathlib.Core.Path.{refl}
use Rattle.steps.proofs.step.visit_entry.Goals as goal

pub returns-then-names_parent : goal.returns-then-names_parent
returns-then-names_parent c =
    let a = c.args in
    let v = a.view.now in
    entry-visited v.document v.words.now (block_of a.block) v.fits c.requires.0 a.at a.parent a.k _ c.requires.1 c.entry-node.ensures _ c.names_parent.ensures _ _ _ c.if-names_parent.true c.min-left.ensures refl c.with_hint-hints.ensures

pub returns-else-names_parent : goal.returns-else-names_parent
returns-else-names_parent c =
    let a = c.args in
    let v = a.view.now in
    entry-refused v.document v.words.now (block_of a.block) v.fits c.requires.0 a.at a.parent a.k _ c.requires.1 c.entry-node.ensures _ c.names_parent.ensures c.if-names_parent.false
