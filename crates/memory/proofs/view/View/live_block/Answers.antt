-- `memory::view::View::live_block` meets its contract.
-- Assumes nothing.
use native.Mathlib.Omega.{arith}
use Rattle.layout.specs.Layout.{which_of}
use Rattle.memory.proofs.Words.{live-below, block-at-below, block_read}
use Rattle.memory.proofs.view.View.live_block.Goals as goal

pub record_word-start-requires : goal.record_word-start-requires
record_word-start-requires c =
    let a = which_of c.args.arena in
    (live-below c.args.self.now.document c.args.self.now.words.now c.args.slot.0 c.requires, omega (arith, c.block_at-at.ensures, block-at-below a))

pub overflow_add-at : goal.overflow_add-at
overflow_add-at c =
    omega (arith, c.block_at-at.ensures, block-at-below (which_of c.args.arena))

pub record_word-len-requires : goal.record_word-len-requires
record_word-len-requires c =
    let a = which_of c.args.arena in
    (live-below c.args.self.now.document c.args.self.now.words.now c.args.slot.0 c.requires, omega (arith, c.block_at-at.ensures, block-at-below a))

pub overflow_cast-result : goal.overflow_cast-result
overflow_cast-result c =
    omega (arith, (block_read c.args.self.now.document c.args.self.now.words.now c.args.slot.0 c.requires (which_of c.args.arena) _ c.block_at-at.ensures _ _ c.record_word-start.ensures c.record_word-len.ensures).narrow_start)

pub overflow_cast-result-2 : goal.overflow_cast-result-2
overflow_cast-result-2 c =
    omega (arith, (block_read c.args.self.now.document c.args.self.now.words.now c.args.slot.0 c.requires (which_of c.args.arena) _ c.block_at-at.ensures _ _ c.record_word-start.ensures c.record_word-len.ensures).narrow-len)

pub returns : goal.returns
returns c =
    (block_read c.args.self.now.document c.args.self.now.words.now c.args.slot.0 c.requires (which_of c.args.arena) _ c.block_at-at.ensures _ _ c.record_word-start.ensures c.record_word-len.ensures).is_block
