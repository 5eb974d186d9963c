-- `structure::fields::is_top` meets its contract.
-- Assumes nothing.
use mathlib.Core.Path.{◌∙◌}
use borrow.Author.Tests.{ne_eqb}
use Rattle.entries.specs.View.{decoded_nodes}
use Rattle.structure.proofs.CountsAndFields.{top-other, top-root}
use Rattle.structure.proofs.fields.is_top.Goals as goal

pub returns-then-kind_of-eq-ROOT : goal.returns-then-kind_of-eq-ROOT
returns-then-kind_of-eq-ROOT c =
    let v = c.args.view.now in
    top-root (decoded_nodes v) _ c.kind_of.ensures c.if-kind_of-eq-ROOT.true _ c.has_no_parent.ensures

pub returns-else-kind_of-eq-ROOT : goal.returns-else-kind_of-eq-ROOT
returns-else-kind_of-eq-ROOT c =
    let v = c.args.view.now in
    ne_eqb _ _ c.if-kind_of-eq-ROOT.false ∙ top-other (decoded_nodes v) _ c.kind_of.ensures c.if-kind_of-eq-ROOT.false
