-- `compaction::trees::lay_slot` meets its contract.
-- Assumes nothing.
use Rattle.compaction.proofs.Turns.{no-tree}
use Rattle.compaction.proofs.trees.lay_slot.Goals as goal

pub returns-else-is_top-clause-laid : goal.returns-else-is_top-clause-laid
returns-else-is_top-clause-laid c =
    let l = c.args.lent.now in
    no-tree l.document l.words.now c.args.slot.0 c.args.used c.requires.1 _ (rw (c.view.ensures.0, c.view.ensures.1) at c.is_top.ensures) c.if-is_top.false
