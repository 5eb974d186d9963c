-- `entries::node_lists::Owner::count_list` meets its contract.
-- Assumes nothing.
use Prim.Native.Nat.{◌+◌}
use native.Mathlib.Omega.{arith}
use lib.ListN.{get_or}
use Rattle.words.proofs.Parts.{lent}
use Rattle.entries.specs.Entering.{words_enter}
use Rattle.entries.proofs.Marks.{passing-next, passing-not, passing-all}
use Rattle.entries.proofs.Counting.{block-of}
use Rattle.entries.proofs.node_lists.Owner.count_list.Goals as goal

pub loop-entry-preserved : goal.loop-entry-preserved
loop-entry-preserved c =
    passing-next _ _ _ _ _ _ _ _ c.loop-entry.invariant _ (omega arith) c.count_entry.auto.marks c.count_entry.ensures c.if-not-count_entry.false

pub returns-then-not-count_entry : goal.returns-then-not-count_entry
returns-then-not-count_entry c =
    let a = c.args in
    let q = words_enter a.self.nodes a.self.made a.self.mem.now a.list a.self.handle in
    rw (← lent a.self.mem.now (a.first + get_or a.self.mem.now a.at 0) (get_or a.self.mem.now (a.at + 1) 0)) (block-of a.self.made q _ a.marks.now _ _ (passing-not _ _ _ _ _ _ _ _ c.loop-entry.invariant _ (omega arith) c.count_entry.ensures c.if-not-count_entry.true))

pub returns : goal.returns
returns c =
    let a = c.args in
    let q = words_enter a.self.nodes a.self.made a.self.mem.now a.list a.self.handle in
    rw (← lent a.self.mem.now (a.first + get_or a.self.mem.now a.at 0) (get_or a.self.mem.now (a.at + 1) 0)) (block-of a.self.made q _ a.marks.now _ _ (passing-all _ _ _ _ _ _ _ c.loop-entry.invariant (omega arith)))
