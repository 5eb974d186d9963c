-- `steps::step::successor` meets its contract.
-- Assumes nothing.
use native.Mathlib.Omega.{arith}
use Rattle.memory.specs.Decode.{block_of}
use Rattle.steps.proofs.Stepping.{successor-child, successor-following}
use Rattle.steps.proofs.step.successor.Goals as goal

pub returns-then-block-gt0 : goal.returns-then-block-gt0
returns-then-block-gt0 c =
    let a = c.args in
    let v = a.view.now in
    successor-child v.document v.words.now v.fits a.at a.id c.requires.1 (block_of c.live_shown_block-block.result) c.live_shown_block-block.ensures (omega arith) _ c.visit_entry.ensures

pub returns-else-block-gt0 : goal.returns-else-block-gt0
returns-else-block-gt0 c =
    let a = c.args in
    let v = a.view.now in
    successor-following v.document v.words.now v.fits a.at a.id c.requires.1 (block_of c.live_shown_block-block.result) c.live_shown_block-block.ensures (omega arith) _ c.following.ensures
