-- `structure::node::may_own` meets its contract.
-- Assumes nothing.
use Rattle.structure.proofs.Owners.{owns-children, owns-lists}
use Rattle.structure.proofs.node.may_own.Goals as goal

pub returns-then-is_child : goal.returns-then-is_child
returns-then-is_child c =
    let a = c.args in
    owns-children a.owner a.owned _ c.is_child.ensures c.if-is_child.true

pub returns-else-is_child : goal.returns-else-is_child
returns-else-is_child c =
    let a = c.args in
    owns-lists a.owner a.owned _ c.is_child.ensures c.if-is_child.false
