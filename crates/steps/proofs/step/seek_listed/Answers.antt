-- `steps::step::seek_listed` meets its contract.
-- Assumes nothing.
use mathlib.Core.Path.{refl}
use native.Mathlib.Omega.{arith}
use Rattle.blocks.specs.Arena.{list_of}
use Rattle.records.specs.Handles.{word_of}
use Rattle.model.specs.Kinds.{children}
use Rattle.memory.specs.Decode.{block_of, arena_in}
use Rattle.showing.proofs.Bounded.{shown-inside}
use Rattle.steps.proofs.Stepping.{shown-length, hinted-within, under-full, under_at, under-above}
use Rattle.steps.proofs.step.seek_listed.Goals as goal

pub returns-then-room-len : goal.returns-then-room-len
returns-then-room-len c =
    let a = c.args in
    let v = a.view.now in
    under-full v.document v.words.now a.at a.word a.room a.parent _ refl c.requires.1 v.fits (block_of c.live_shown_block-block.result) c.live_shown_block-block.ensures (omega arith)

pub overflow_add-k : goal.overflow_add-k
overflow_add-k c =
    let a = c.args in
    let v = a.view.now in
    let z = hinted-within (list_of (arena_in v.document children v.words.now) (block_of c.live_shown_block-block.result)) a.word c.hint_for.result in
    let y = shown-length v.document v.words.now (block_of c.live_shown_block-block.result) v.fits (shown-inside v.document v.words.now children (word_of a.parent) (block_of c.live_shown_block-block.result) c.live_shown_block-block.ensures) in
    omega (arith, z, y, c.hinted_index-k.ensures)

pub returns-then-k-len : goal.returns-then-k-len
returns-then-k-len c =
    let a = c.args in
    let v = a.view.now in
    under_at v.document v.words.now a.at a.word a.room a.parent _ refl c.requires.1 v.fits (block_of c.live_shown_block-block.result) c.live_shown_block-block.ensures _ _ c.hint_for.ensures c.hinted_index-k.ensures (omega arith) _ c.from-node.ensures (omega arith) _ c.visit_entry.ensures

pub returns-else-k-len : goal.returns-else-k-len
returns-else-k-len c =
    let a = c.args in
    let v = a.view.now in
    under-above v.document v.words.now a.at a.word a.room a.parent _ refl c.requires.1 v.fits (block_of c.live_shown_block-block.result) c.live_shown_block-block.ensures _ _ c.hint_for.ensures c.hinted_index-k.ensures (omega arith) _ c.from-node.ensures (omega arith)
