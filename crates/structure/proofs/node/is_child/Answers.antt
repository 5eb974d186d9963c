-- `structure::node::is_child` meets its contract.
-- Assumes nothing.
use mathlib.Core.Path.{ap, ◌∙◌}
use mathlib.Core.Bool.{not}
use borrow.Author.Tests.{eq-eqb}
use Rattle.structure.proofs.Owners.{child-not, child-rest}
use Rattle.structure.proofs.node.is_child.Goals as goal

pub returns-then-kind-ne-ATTR : goal.returns-then-kind-ne-ATTR
returns-then-kind-ne-ATTR c = child-rest c.args.kind c.if-kind-ne-ATTR.true

pub returns-else-kind-ne-ATTR : goal.returns-else-kind-ne-ATTR
returns-else-kind-ne-ATTR c = ap not (eq-eqb _ _ c.if-kind-ne-ATTR.false) ∙ child-not c.args.kind c.if-kind-ne-ATTR.false
