-- `showing::shown::live_shown_block` meets its contract.
-- Assumes nothing.
use mathlib.Core.Path.{refl}
use native.Mathlib.Omega.{arith}
use Rattle.layout.specs.Layout.{which_of}
use Rattle.memory.specs.Decode.{block_of}
use Rattle.showing.proofs.Found.{live-shown}
use Rattle.showing.proofs.Bounded.{block-shown}
use Rattle.showing.proofs.shown.live_shown_block.Goals as goal

pub live_block-block-requires : goal.live_block-block-requires
live_block-block-requires c =
    let a = c.args in
    let v = a.view.now in
    live-shown v.document v.words.now a.id (omega arith) (omega arith) _ refl c.requires

pub returns : goal.returns
returns c =
    let a = c.args in
    let v = a.view.now in
    block-shown v.document v.words.now a.id (omega arith) (omega arith) (which_of a.arena) _ refl c.requires
    (block_of c.live_block-block.result) _ _ c.live_block-block.ensures c.arena_used.ensures c.within.ensures
