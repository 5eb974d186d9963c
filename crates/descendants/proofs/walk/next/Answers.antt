-- `descendants::walk::next` meets its contract.
-- Assumes nothing.
use mathlib.Core.Path.{refl, sym}
use Rattle.descendants.specs.Contract.{next_of}
use Rattle.descendants.proofs.walk.next.Goals as goal

pub returns : goal.returns
unfolding next_of
returns c =
    let v = c.in_ok-view.view in
    let e = c.in_ok-view.ensures in
    rw (sym e.1, sym e.2, v.fits, c.step.ensures) refl
