-- `compaction::trees::lay_tree` meets its contract.
-- Assumes nothing.
use mathlib.Core.Path.{refl, sym, ap, ◌∙◌}
use native.Mathlib.Omega.{arith}
use lib.ListN.{length}
use Rattle.walks.specs.Stack.{Stacked, pushed}
use Rattle.compaction.proofs.Turns.{some-room, turn-first, turn-left, turn-held, turn-layable, turn-room, turn-next, turn_last}
use Rattle.compaction.proofs.trees.lay_tree.Goals as goal

pub loop-word-init : goal.loop-word-init
loop-word-init c =
    let a = c.args in
    let l = a.lent.now in
    let room = some-room l.document (length l.words.now) (length a.words.now) l.fits c.requires.0 in
    record {
      lent = record { record_is = refl; words_are = refl; reference = refl };
      turn = turn-first l.document l.words.now a.words.now a.slot.0 a.used _ _ _ room c.with_word-stack.ensures (rw (c.view.ensures.0, c.view.ensures.1) at c.handle_in.ensures) c.made-left.ensures;
    }

pub list_of-requires : goal.list_of-requires
list_of-requires c =
    let a = c.args in
    let l = a.lent.now in
    let i = c.loop-word.invariant in
    let v = c.view-in-Some.ensures in
    rw (v.0, v.1, i.lent.record_is) (turn-held l.document l.words.now a.words.now a.slot.0 a.used c.requires.1 _ _ _ _ i.turn _ (sym c.in-Some.is ∙ c.pop.ensures.value) _ c.slot_of.ensures)

pub push_reversed-requires : goal.push_reversed-requires
push_reversed-requires c =
    let a = c.args in
    let l = a.lent.now in
    let i = c.loop-word.invariant in
    let v = c.view-in-Some.ensures in
    let g = rw (v.0, v.1, i.lent.record_is) at c.list_of.ensures in
    rw (c.pop.ensures.stack_after)
    (turn-room l.document l.words.now a.words.now a.slot.0 a.used c.requires.1 _ _ _ _ i.turn _ (sym c.in-Some.is ∙ c.pop.ensures.value) _ c.slot_of.ensures _ g c.requires.0)

pub lay_node-laid-requires : goal.lay_node-laid-requires
lay_node-laid-requires c =
    let a = c.args in
    let l = a.lent.now in
    let i = c.loop-word.invariant in
    rw i.lent.record_is (turn-layable l.document l.words.now a.words.now a.slot.0 a.used c.requires.1 _ _ _ _ i.turn _ (sym c.in-Some.is ∙ c.pop.ensures.value))

pub overflow_sub-left : goal.overflow_sub-left
overflow_sub-left c =
    let a = c.args in
    let l = a.lent.now in
    turn-left l.document l.words.now a.words.now a.slot.0 a.used c.requires.1 _ _ _ _ c.loop-word.invariant.turn _ (sym c.in-Some.is ∙ c.pop.ensures.value)

pub loop-word-smaller : goal.loop-word-smaller
loop-word-smaller c =
    let a = c.args in
    let l = a.lent.now in
    omega (arith, turn-left l.document l.words.now a.words.now a.slot.0 a.used c.requires.1 _ _ _ _ c.loop-word.invariant.turn _ (sym c.in-Some.is ∙ c.pop.ensures.value))

pub loop-word-preserved : goal.loop-word-preserved
loop-word-preserved c =
    let a = c.args in
    let l = a.lent.now in
    let i = c.loop-word.invariant in
    let v = c.view-in-Some.ensures in
    let g = rw (v.0, v.1, i.lent.record_is) at c.list_of.ensures in
    let lay = c.lay_node-laid.ensures in
    record {
      lent = record { record_is = lay.lent_after.record_is ∙ i.lent.record_is; words_are = refl; reference = lay.lent_after.reference ∙ i.lent.reference };
      turn = turn-next l.document l.words.now a.words.now a.slot.0 a.used c.requires.1 _ _ _ _ i.turn _ (sym c.in-Some.is ∙ c.pop.ensures.value) _ c.slot_of.ensures _ g c.requires.0 _
          (c.push_reversed.ensures ∙ ap (λ (s : Stacked). pushed c.list_of.result.now s) c.pop.ensures.stack_after) _ _ (rw i.lent.record_is at lay.copies);
    }

pub returns-clause-laid : goal.returns-clause-laid
returns-clause-laid c =
    let a = c.args in
    let l = a.lent.now in
    turn_last l.document l.words.now a.words.now a.slot.0 a.used c.requires.1 _ _ _ _ c.loop-word.invariant.turn (sym c.in_default.is ∙ c.pop.ensures.value)
