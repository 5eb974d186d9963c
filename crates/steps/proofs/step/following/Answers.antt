-- `steps::step::following` meets its contract. The invariant: what is found from the start is what the turns that are left find from the node reached, which resolves.
-- Assumes nothing.
use native.Mathlib.Omega.{arith}
use Prim.Native.Nat.{◌-◌}
use Rattle.memory.specs.Decode.{slots_made}
use Rattle.memory.specs.View.{decoded}
use Rattle.steps.proofs.Stepping.{following-above, following-ends, above-resolves}
use Rattle.steps.proofs.step.following.Goals as goal

pub loop-preserved : goal.loop-preserved
loop-preserved c =
    let a = c.args in (
      following-above (decoded a.view.now) a.at a.from (slots_made a.view.now.document) (c.made-made.result - c.loop.counter) c.loop.room c.loop.word c.loop.invariant.0 _ (omega arith) _ c.seek.ensures _ c.in-Continue.is,
      above-resolves (decoded a.view.now) a.at c.loop.word c.loop.room _ c.seek.ensures _ c.in-Continue.is,
    )

pub returns-in-Break : goal.returns-in-Break
returns-in-Break c =
    let a = c.args in
    following-ends (decoded a.view.now) a.at a.from (slots_made a.view.now.document) (c.made-made.result - c.loop.counter) c.loop.room c.loop.word c.loop.invariant.0 (c.made-made.result - c.loop.counter - 1) (omega arith) _ c.seek.ensures _ c.in-Break.is
