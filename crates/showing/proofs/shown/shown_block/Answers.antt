-- `showing::shown::shown_block` meets its contract.
-- Assumes nothing.
use native.Mathlib.Omega.{arith}
use Rattle.layout.specs.Layout.{which_of}
use Rattle.showing.proofs.Bounded.{block-stale}
use Rattle.showing.proofs.shown.shown_block.Goals as goal

pub returns-else-resolves : goal.returns-else-resolves
returns-else-resolves c =
    let a = c.args in
    let v = a.view.now in
    block-stale v.document v.words.now a.id (omega arith) (omega arith) (which_of a.arena) _ c.resolves.ensures c.if-resolves.false
