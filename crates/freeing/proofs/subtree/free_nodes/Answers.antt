-- `freeing::subtree::free_nodes` meets its contract.
-- Assumes nothing.
use mathlib.Core.Path.{refl, sym, ◌∙◌}
use lib.ListN.{length}
use Rattle.records.specs.Handles.{word_of}
use Rattle.freeing.proofs.Turns.{stack_some, freeing-first, freed-smaller, lists-held, stack-room, node-freeable, freeing-next, freeing-last}
use Rattle.freeing.proofs.subtree.free_nodes.Goals as goal

pub loop-word-init : goal.loop-word-init
loop-word-init c =
    let a = c.args in
    let l = a.lent.now in
    record {
      turn = freeing-first l.document l.words.now (word_of a.id) l.fits c.requires.1 a.words.now (stack_some l.document (length l.words.now) (length a.words.now) l.fits c.requires.0) _ c.from.ensures _ c.with_word-stack.ensures;
      reference = refl;
    }

pub push_lists-requires : goal.push_lists-requires
push_lists-requires c =
    let a = c.args in
    let l = a.lent.now in
    let F = c.loop-word.invariant.turn in
    let top = sym c.in-Some.is ∙ c.pop.ensures.value in
    let s = c.slot_of-slot.ensures in
    rw (c.view.ensures.0, c.view.ensures.1, c.pop.ensures.stack_after) (
      lists-held l.document l.words.now (word_of a.id) l.fits c.requires.1 _ _ _ _ F _ top _ s,
      stack-room l.document l.words.now (word_of a.id) l.fits c.requires.1 _ _ _ _ F _ top _ s c.requires.0,
    )

pub free_node-requires : goal.free_node-requires
free_node-requires c =
    let a = c.args in
    let l = a.lent.now in
    node-freeable l.document l.words.now (word_of a.id) l.fits c.requires.1 _ _ _ _ c.loop-word.invariant.turn _ (sym c.in-Some.is ∙ c.pop.ensures.value) _ c.slot_of-slot.ensures

pub loop-word-smaller : goal.loop-word-smaller
loop-word-smaller c =
    let a = c.args in
    let l = a.lent.now in
    freed-smaller l.document l.words.now (word_of a.id) l.fits c.requires.1 _ _ _ _ c.loop-word.invariant.turn _ (sym c.in-Some.is ∙ c.pop.ensures.value) _ c.slot_of-slot.ensures _ _ c.free_node.ensures.step

pub loop-word-preserved : goal.loop-word-preserved
loop-word-preserved c =
    let a = c.args in
    let l = a.lent.now in
    let i = c.loop-word.invariant in
    record {
      turn =
          freeing-next l.document l.words.now (word_of a.id) l.fits c.requires.1 _ _ _ _ i.turn _ (sym c.in-Some.is ∙ c.pop.ensures.value) _ c.slot_of-slot.ensures c.requires.0 _
          (rw (c.view.ensures.0, c.view.ensures.1, c.pop.ensures.stack_after) at c.push_lists.ensures) _ _ c.free_node.ensures.step;
      reference = c.free_node.ensures.reference ∙ i.reference;
    }

pub returns : goal.returns
returns c =
    let a = c.args in
    let l = a.lent.now in
    let i = c.loop-word.invariant in
    let q = freeing-last l.document l.words.now (word_of a.id) l.fits c.requires.1 _ _ _ _ i.turn (sym c.in_default.is ∙ c.pop.ensures.value) in
    record { step = record { step = q.0; reference = i.reference }; reclaimable = q.1 }
