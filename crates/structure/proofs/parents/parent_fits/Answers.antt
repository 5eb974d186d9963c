-- `structure::parents::parent_fits` meets its contract.
-- Assumes nothing.
use Rattle.entries.specs.View.{decoded_nodes}
use Rattle.structure.proofs.Owners.{parent-none, parent-some}
use Rattle.structure.proofs.parents.parent_fits.Goals as goal

pub returns-in-None : goal.returns-in-None
returns-in-None c =
    let a = c.args in
    let v = c.args.nodes.now.view in
    parent-none (decoded_nodes v) a.s _ c.kind_of-kind.ensures c.parent_of.result c.parent_of.ensures c.in-None.is _ c.is_child.ensures

pub returns-in-Some : goal.returns-in-Some
returns-in-Some c =
    let a = c.args in
    let v = c.args.nodes.now.view in
    parent-some (decoded_nodes v) a.s _ c.kind_of-kind.ensures c.parent_of.result c.parent_of.ensures _ c.in-Some.is _ _ c.from.ensures c.owner_fits.ensures
