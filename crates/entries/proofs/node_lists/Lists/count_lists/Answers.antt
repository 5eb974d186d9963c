-- `entries::node_lists::Lists::count_lists` meets its contract.
-- Assumes nothing.
use native.Mathlib.Omega.{arith}
use Rattle.entries.proofs.Marks.{passing-next, passing-not}
use Rattle.entries.proofs.node_lists.Lists.count_lists.Goals as goal

pub returns-then-not-count_slot : goal.returns-then-not-count_slot
returns-then-not-count_slot c =
    passing-not _ _ _ _ _ _ _ _ c.loop-i.invariant _ (omega (arith, c.made-i-end.ensures)) c.count_slot.ensures c.if-not-count_slot.true

pub loop-i-preserved : goal.loop-i-preserved
loop-i-preserved c =
    passing-next _ _ _ _ _ _ _ _ c.loop-i.invariant _ (omega (arith, c.made-i-end.ensures)) c.count_slot.auto.marks c.count_slot.ensures c.if-not-count_slot.false
