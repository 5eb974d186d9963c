-- `entries::node_lists::Owner::count_entry` meets its contract.
-- Assumes nothing.
use Rattle.entries.proofs.Counting.{entry-marked, entry-counted}
use Rattle.entries.proofs.node_lists.Owner.count_entry.Goals as goal

pub count-requires : goal.count-requires
count-requires c =
    let a = c.args in
    entry-marked a.self.nodes a.self.made a.self.mem.now a.list a.self.handle a.entry _ a.marks.now c.holds.ensures c.requires c.if-holds.true

pub returns-then-holds : goal.returns-then-holds
returns-then-holds c =
    let a = c.args in
    entry-counted a.self.nodes a.self.made a.self.mem.now a.list a.self.handle a.entry _ a.marks.now c.holds.ensures c.requires c.if-holds.true _ c.count.ensures
