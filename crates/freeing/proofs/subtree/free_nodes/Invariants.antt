use mathlib.Core.Path.{◌≡◌}
use Prim.Native.Nat.{◌-◌}
use lib.ListN.{length}
use Rattle.records.specs.Handles.{word_of}
use Rattle.memory.specs.Lent.{document_in}
use Rattle.freeing.proofs.Turns.{Freeing}
use Rattle.freeing.proofs.subtree.free_nodes.Given as goal

-- the lent memory stays under the name that it was lent by
abbrev pub invariant-loop-word : goal.invariant-loop-word
invariant-loop-word l = record {
  turn : Freeing l.initial.lent.document l.initial.lent.words.now (word_of l.fn.id) (length l.fn.words) l.lent.document l.lent.words.now l.stack;
  reference : l.lent.words.ghost_name ≡ l.initial.lent.words.ghost_name;
}

-- each turn frees a slot
abbrev pub decreases-loop-word : goal.decreases-loop-word
decreases-loop-word l = l.lent.document.limits.nodes - length (document_in l.lent).free
