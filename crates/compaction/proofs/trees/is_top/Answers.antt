-- `compaction::trees::is_top` meets its contract.
-- Assumes nothing.
use mathlib.Core.Path.{◌∙◌}
use borrow.Author.Tests.{eq-eqb, ne_eqb}
use Rattle.compaction.proofs.Reading.{even-live, top-even, top-odd}
use Rattle.compaction.proofs.trees.is_top.Goals as goal

pub has_no_parent-requires : goal.has_no_parent-requires
has_no_parent-requires c =
    even-live c.args.view.now.document c.args.view.now.words.now c.args.slot.0 c.requires.0 _ c.generation.ensures c.requires.1 (eq-eqb _ _ c.if-generation-eq0.true)

pub returns-then-generation-eq0 : goal.returns-then-generation-eq0
returns-then-generation-eq0 c =
    let v = c.args.view.now in
    let s = c.args.slot.0 in
    top-even v.document v.words.now s c.requires.0 _ c.generation.ensures (even-live v.document v.words.now s c.requires.0 _ c.generation.ensures c.requires.1 (eq-eqb _ _ c.if-generation-eq0.true)) _ c.has_no_parent.ensures

pub returns-else-generation-eq0 : goal.returns-else-generation-eq0
returns-else-generation-eq0 c =
    let odd = ne_eqb _ _ c.if-generation-eq0.false in
    odd ∙ top-odd c.args.view.now.document c.args.view.now.words.now c.args.slot.0 c.requires.0 _ c.generation.ensures odd
