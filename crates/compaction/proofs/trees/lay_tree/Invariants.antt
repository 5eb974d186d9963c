use Rattle.memory.specs.Lent.{Becomes}
use Rattle.compaction.proofs.Turns.{TreeTurn}
use Rattle.compaction.proofs.trees.lay_tree.Given as goal

abbrev pub invariant-loop-word : goal.invariant-loop-word
invariant-loop-word l = record {
  lent : Becomes l.initial.lent l.lent l.initial.lent.document l.lent.words.now;
  turn : TreeTurn l.initial.lent.document l.initial.lent.words.now l.fn.words l.fn.slot.0 l.initial.laid l.lent.words.now l.stack l.laid l.left;
}

abbrev pub decreases-loop-word : goal.decreases-loop-word
decreases-loop-word l = l.left
