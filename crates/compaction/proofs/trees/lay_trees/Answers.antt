-- `compaction::trees::lay_trees` meets its contract.
-- Assumes nothing.
use mathlib.Core.Path.{refl, ◌∙◌}
use native.Mathlib.Omega.{arith}
use lib.ListN.{length}
use Rattle.layout.proofs.Sizes.{sizes}
use Rattle.compaction.proofs.Turns.{trees-none, trees-next, trees-last}
use Rattle.compaction.proofs.trees.lay_trees.Goals as goal

pub loop-s-init : goal.loop-s-init
loop-s-init c =
    let l = c.args.lent.now in
    record { lent = record { record_is = refl; words_are = refl; reference = refl }; trees = trees-none l.document l.words.now l.fits c.requires.1 }

pub overflow_cast-s : goal.overflow_cast-s
overflow_cast-s c =
    let l = c.args.lent.now in
    let z = sizes l.document (length l.words.now) l.fits in
    let n = c.made-s-end.ensures in
    omega (arith, z.nodes)

pub loop-s-preserved : goal.loop-s-preserved
loop-s-preserved c =
    let l = c.args.lent.now in
    let i = c.loop-s.invariant in
    let lay = c.lay_slot-used.ensures in
    record {
      lent = record { record_is = lay.lent_after.record_is ∙ i.lent.record_is; words_are = refl; reference = lay.lent_after.reference ∙ i.lent.reference };
      trees = trees-next l.document l.words.now _ _ _ _ _ i.trees (rw i.lent.record_is at lay.laid);
    }

pub returns-clause-laid : goal.returns-clause-laid
returns-clause-laid c =
    let l = c.args.lent.now in
    trees-last l.document l.words.now _ c.loop-s.s _ _ c.loop-s.invariant.trees c.made-s-end.ensures (omega arith) (omega arith)
