-- `walks::order::number_list` meets its contract.
-- Assumes nothing.
use mathlib.Core.Path.{refl, ◌∙◌}
use native.Mathlib.Omega.{arith}
use lib.ListN.{length}
use Rattle.layout.specs.Layout.{which_of}
use Rattle.layout.proofs.Sizes.{memory-limits}
use Rattle.walks.proofs.Listing.{block_read, list-within, keys-first, keys-sized, list-numbered, entry_listed, keys-next}
use Rattle.walks.proofs.order.number_list.Goals as goal

pub arena_at-requires : goal.arena_at-requires
arena_at-requires c = memory-limits c.args.lent.now.document (length c.args.lent.now.words.now) c.args.lent.now.fits

pub loop-k-init : goal.loop-k-init
loop-k-init c =
    let l = c.args.lent.now in
    record { record_is = refl; words_are = keys-first l.document l.words.now l.fits (which_of c.args.arena) _ c.args.key; reference = refl }

pub overflow_add-start : goal.overflow_add-start
overflow_add-start c =
    let f = list-within _ _ _ _ c.requires.0.held c.live_block-block.result (rw (c.view.ensures.0, c.view.ensures.1) at c.live_block-block.ensures) _ c.arena_at.ensures in
    omega arith

pub overflow_add-word : goal.overflow_add-word
overflow_add-word c =
    let f = list-within _ _ _ _ c.requires.0.held c.live_block-block.result (rw (c.view.ensures.0, c.view.ensures.1) at c.live_block-block.ensures) _ c.arena_at.ensures in
    omega arith

pub offset_bounds-lent-start : goal.offset_bounds-lent-start
offset_bounds-lent-start c =
    let f = list-within _ _ _ _ c.requires.0.held c.live_block-block.result (rw (c.view.ensures.0, c.view.ensures.1) at c.live_block-block.ensures) _ c.arena_at.ensures in
    omega arith

pub bounds-lent-start : goal.bounds-lent-start
bounds-lent-start c =
    let l = c.args.lent.now in
    let f = list-within _ _ _ _ c.requires.0.held c.live_block-block.result (rw (c.view.ensures.0, c.view.ensures.1) at c.live_block-block.ensures) _ c.arena_at.ensures in
    omega (arith, keys-sized l.document l.words.now l.fits (which_of c.args.arena) c.args.key _ _ c.loop-k.invariant.words_are)

pub put_key-requires : goal.put_key-requires
put_key-requires c =
    let a = c.args in
    let l = a.lent.now in
    let w = which_of a.arena in
    let b = block_read l.document l.words.now w a.slot.0 c.requires.0.held c.live_block-block.result (rw (c.view.ensures.0, c.view.ensures.1) at c.live_block-block.ensures) in
    let i = c.loop-k.invariant in
    rw i.record_is (entry_listed l.document l.words.now l.fits w _ c.arena_at.ensures _ _ _ a.key _ _ b.inside (omega arith) i.words_are refl a.slot.0 c.requires.0 b.list)

pub loop-k-preserved : goal.loop-k-preserved
loop-k-preserved c =
    let a = c.args in
    let l = a.lent.now in
    let w = which_of a.arena in
    let b = block_read l.document l.words.now w a.slot.0 c.requires.0.held c.live_block-block.result (rw (c.view.ensures.0, c.view.ensures.1) at c.live_block-block.ensures) in
    let i = c.loop-k.invariant in
    let put = c.put_key.ensures in
    record {
      record_is = put.record_is ∙ i.record_is;
      words_are = keys-next l.document l.words.now l.fits w _ c.arena_at.ensures _ _ _ a.key _ _ b.inside (omega arith) i.words_are refl _ (rw i.record_is at put.words_are);
      reference = put.reference ∙ i.reference;
    }

pub returns : goal.returns
returns c =
    let a = c.args in
    let l = a.lent.now in
    let w = which_of a.arena in
    let r = c.live_block-block in
    let b = block_read l.document l.words.now w a.slot.0 c.requires.0.held r.result (rw (c.view.ensures.0, c.view.ensures.1) at r.ensures) in
    let i = c.loop-k.invariant in
    let q = list-numbered l.document l.words.now l.fits w _ c.arena_at.ensures a.slot.0 r.result b a.key _ _ (omega arith) (omega arith) i.words_are in
    record { value = q.0; lent_after = record { record_is = i.record_is; words_are = q.1; reference = i.reference } }
