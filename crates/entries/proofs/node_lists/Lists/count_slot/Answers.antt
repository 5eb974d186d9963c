-- `entries::node_lists::Lists::count_slot` meets its contract.
-- Assumes nothing.
use Rattle.entries.specs.View.{decoded_nodes}
use Rattle.entries.proofs.Counting.{lists-none}
use Rattle.entries.proofs.node_lists.Lists.count_slot.Goals as goal

pub returns-else-is_live : goal.returns-else-is_live
returns-else-is_live c =
    let a = c.args in
    let v = c.args.self.now.nodes.view in
    lists-none (decoded_nodes v) _ a.s _ _ c.is_live.ensures c.if-is_live.false
