-- `chars::utf8::step_at` meets its contract: the step is read from what is left.
-- Assumes nothing.
use mathlib.Core.Path.{refl}
use Rattle.chars.proofs.Numbers.{step-left}
use Rattle.chars.proofs.utf8.step_at.Goals as goal

pub returns : goal.returns
returns g c =
    step-left g.T.Unit.number g.T.Unit.numbers g.met.T.Unit.each c.args.s.now c.args.i _ _ _ _ _ _ refl
    c.number_at.ensures c.number_at-2.ensures c.number_at-3.ensures c.number_at-4.ensures c.step_of.ensures
