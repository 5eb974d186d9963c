-- `structure::fields::root_stands` meets its contract.
-- Assumes nothing.
use mathlib.Core.Path.{◌∙◌}
use borrow.Author.Tests.{ne_eqb}
use Rattle.structure.proofs.CountsAndFields.{root_none, root-old, first_live, root-top}
use Rattle.structure.proofs.fields.root_stands.Goals as goal

pub returns-then-made-eq0 : goal.returns-then-made-eq0
returns-then-made-eq0 c =
    let v = c.args.nodes.now.view in
    root_none v.document v.words.now _ c.made.ensures c.if-made-eq0.true

pub returns-else-generation-eq0 : goal.returns-else-generation-eq0
returns-else-generation-eq0 c =
    let v = c.args.nodes.now.view in
    ne_eqb _ _ c.if-generation-eq0.false ∙ root-old v.document v.words.now _ c.made.ensures c.if-made-eq0.false _ c.generation.ensures c.if-generation-eq0.false

pub is_top-requires : goal.is_top-requires
is_top-requires c =
    let v = c.args.nodes.now.view in
    first_live v.document v.words.now _ c.made.ensures c.if-made-eq0.false _ c.generation.ensures c.if-generation-eq0.true c.args.nodes.now.words

pub returns-then-generation-eq0 : goal.returns-then-generation-eq0
returns-then-generation-eq0 c =
    let v = c.args.nodes.now.view in
    root-top v.document v.words.now _ c.made.ensures c.if-made-eq0.false _ c.generation.ensures c.if-generation-eq0.true c.args.nodes.now.words _ c.is_top.ensures
