-- `compaction::copy::lay_list` meets its contract.
-- Assumes nothing.
use native.Mathlib.Omega.{arith}
use Rattle.layout.specs.Layout.{which_of}
use Rattle.compaction.proofs.Copying.{slot-in, narrow, block-inside, block_room, laid-with}
use Rattle.compaction.proofs.copy.lay_list.Goals as goal

pub copy_block-requires : goal.copy_block-requires
copy_block-requires c =
    let l = c.args.lent.now in
    let w = which_of c.args.arena in
    let e = c.of-start.ensures in
    let b = rw (c.view.ensures.0, c.view.ensures.1) at c.live_block-block.ensures in
    (block-inside l.document l.words.now w c.args.slot.0 c.args.used c.requires c.live_block-block.result b, omega (arith, e, block_room l.document l.words.now w c.args.slot.0 c.args.used c.requires c.live_block-block.result b))

pub overflow_cast-range : goal.overflow_cast-range
overflow_cast-range c =
    let l = c.args.lent.now in
    let w = which_of c.args.arena in
    let e = c.of-start.ensures in
    let b = rw (c.view.ensures.0, c.view.ensures.1) at c.live_block-block.ensures in
    omega (arith, e, block_room l.document l.words.now w c.args.slot.0 c.args.used c.requires c.live_block-block.result b, narrow l.document l.words.now w c.args.slot.0 c.args.used c.requires)

pub put_range-requires : goal.put_range-requires
put_range-requires c =
    let l = c.args.lent.now in
    rw c.copy_block.ensures.lent_after.record_is (slot-in l.document l.words.now (which_of c.args.arena) c.args.slot.0 c.args.used c.requires)

pub overflow_add-start : goal.overflow_add-start
overflow_add-start c =
    let l = c.args.lent.now in
    let w = which_of c.args.arena in
    let e = c.of-start.ensures in
    let b = rw (c.view.ensures.0, c.view.ensures.1) at c.live_block-block.ensures in
    omega (arith, e, block_room l.document l.words.now w c.args.slot.0 c.args.used c.requires c.live_block-block.result b, narrow l.document l.words.now w c.args.slot.0 c.args.used c.requires)

pub returns-clause-copies : goal.returns-clause-copies
returns-clause-copies c =
    let l = c.args.lent.now in
    let w = which_of c.args.arena in
    let b = rw (c.view.ensures.0, c.view.ensures.1) at c.live_block-block.ensures in
    let copy = c.copy_block.ensures in
    laid-with l.document l.words.now w c.args.slot.0 c.args.used c.requires c.live_block-block.result b _ c.of-start.ensures _ copy.copied _ (rw copy.lent_after.record_is at c.put_range.ensures.words_are) _ c.with.ensures
