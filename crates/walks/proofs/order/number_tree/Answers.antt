-- `walks::order::number_tree` meets its contract.
-- Assumes nothing.
use mathlib.Core.Path.{refl, sym, ap, ◌∙◌}
use native.Mathlib.Omega.{arith}
use lib.ListN.{length}
use Rattle.layout.proofs.Sizes.{limits-fit, memory-limits}
use Rattle.layout.specs.Layout.{limits_of}
use Rattle.walks.specs.Stack.{Stacked, pushed}
use Rattle.walks.proofs.Renewing.{word-listed, turn-smaller, key-short, children-listed, stack-room, renewing-first, renewing-next, renewing-last}
use Rattle.walks.proofs.order.number_tree.Goals as goal

pub loop-word-init : goal.loop-word-init
loop-word-init c =
    let l = c.args.lent.now in
    let f = limits-fit (limits_of l.document.limits) (memory-limits l.document (length l.words.now) l.fits) in
    let r = c.requires.0 in
    record {
      record_is = refl;
      turn = renewing-first l.document l.words.now l.fits c.requires.1 c.args.words.now (omega (arith, f.some-node)) _ c.with_word-stack.ensures;
      reference = refl;
    }

pub number_node-key-requires : goal.number_node-key-requires
number_node-key-requires c =
    let l = c.args.lent.now in
    let i = c.loop-word.invariant in
    let top = sym c.in-Some.is ∙ c.pop.ensures.value in
    rw i.record_is (word-listed l.document l.words.now l.fits c.requires.1 _ _ _ _ i.turn _ top _ refl, key-short l.document l.words.now l.fits c.requires.1 _ _ _ _ i.turn _ top)

pub list_of-requires : goal.list_of-requires
list_of-requires c =
    let l = c.args.lent.now in
    let i = c.loop-word.invariant in
    let n = c.number_node-key.ensures in
    rw (c.view.ensures.0, c.view.ensures.1, n.lent_after.record_is, i.record_is)
    ((children-listed l.document l.words.now l.fits c.requires.1 _ _ _ _ i.turn _ (sym c.in-Some.is ∙ c.pop.ensures.value) _ _ (rw i.record_is at n.value) (rw i.record_is at n.lent_after.words_are) _ c.slot_of.ensures).held)

pub push_reversed-requires : goal.push_reversed-requires
push_reversed-requires c =
    let l = c.args.lent.now in
    let i = c.loop-word.invariant in
    let n = c.number_node-key.ensures in
    let g = rw (c.view.ensures.0, c.view.ensures.1, n.lent_after.record_is, i.record_is) at c.list_of.ensures in
    rw (c.pop.ensures.stack_after)
    (stack-room l.document l.words.now l.fits c.requires.1 _ _ _ _ i.turn _ (sym c.in-Some.is ∙ c.pop.ensures.value) _ _ (rw i.record_is at n.value) (rw i.record_is at n.lent_after.words_are) _ c.slot_of.ensures _ g c.requires.0)

pub loop-word-smaller : goal.loop-word-smaller
loop-word-smaller c =
    let l = c.args.lent.now in
    let i = c.loop-word.invariant in
    let n = c.number_node-key.ensures in
    rw (n.lent_after.record_is, i.record_is)
    (turn-smaller l.document l.words.now l.fits c.requires.1 _ _ _ _ i.turn _ (sym c.in-Some.is ∙ c.pop.ensures.value) _ (rw i.record_is at n.value))

pub loop-word-preserved : goal.loop-word-preserved
loop-word-preserved c =
    let l = c.args.lent.now in
    let i = c.loop-word.invariant in
    let n = c.number_node-key.ensures in
    let g = rw (c.view.ensures.0, c.view.ensures.1, n.lent_after.record_is, i.record_is) at c.list_of.ensures in
    record {
      record_is = n.lent_after.record_is ∙ i.record_is;
      turn = renewing-next l.document l.words.now l.fits c.requires.1 _ _ _ _ i.turn _ (sym c.in-Some.is ∙ c.pop.ensures.value) _ _ (rw i.record_is at n.value) (rw i.record_is at n.lent_after.words_are) _ c.slot_of.ensures _ g c.requires.0 _
          (c.push_reversed.ensures ∙ ap (λ (s : Stacked). pushed c.list_of.result.now s) c.pop.ensures.stack_after);
      reference = n.lent_after.reference ∙ i.reference;
    }

pub returns : goal.returns
returns c =
    let l = c.args.lent.now in
    let i = c.loop-word.invariant in
    record {
      record_is = i.record_is;
      words_are = renewing-last l.document l.words.now l.fits c.requires.1 _ _ _ _ i.turn (sym c.in_default.is ∙ c.pop.ensures.value);
      reference = i.reference;
    }
