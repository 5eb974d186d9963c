use Rattle.memory.specs.Lent.{Becomes}
use Rattle.compaction.specs.Copies.{TreesLaid}
use Rattle.compaction.proofs.trees.lay_trees.Given as goal

abbrev pub invariant-loop-s : goal.invariant-loop-s
invariant-loop-s l = record {
  lent : Becomes l.initial.lent l.lent l.initial.lent.document l.lent.words.now;
  trees : TreesLaid l.initial.lent.document l.initial.lent.words.now l.lent.words.now l.s l.used;
}
