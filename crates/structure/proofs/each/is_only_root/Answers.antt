-- `structure::each::is_only_root` meets its contract.
-- Assumes nothing.
use mathlib.Core.Path.{◌∙◌}
use borrow.Author.Tests.{eq-eqb}
use Rattle.structure.proofs.CountsAndFields.{root-first, no-other-root}
use Rattle.structure.proofs.each.is_only_root.Goals as goal

pub returns-then-s-eq0 : goal.returns-then-s-eq0
returns-then-s-eq0 c =
    let v = c.args.view.now in
    eq-eqb _ _ c.if-s-eq0.true ∙ root-first v.document v.words.now _ c.if-s-eq0.true

pub returns-else-s-eq0 : goal.returns-else-s-eq0
returns-else-s-eq0 c =
    let v = c.args.view.now in
    no-other-root v.document v.words.now c.args.s c.if-s-eq0.false c.requires _ c.kind_of.ensures
