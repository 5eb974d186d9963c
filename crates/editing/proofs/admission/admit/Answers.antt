-- `editing::admission::admit` meets its contract.
-- Assumes nothing.
use mathlib.Core.Path.{refl, sym, ◌∙◌}
use Rattle.editing.proofs.Admitting.{ready}
use Rattle.editing.proofs.admission.admit.Goals as goal

pub returns-then-check_structure-clause-ready : goal.returns-then-check_structure-clause-ready
returns-then-check_structure-clause-ready c =
    let a = c.args in
    let k = c.check_structure.ensures in
    let f = sym c.buffers_ok.ensures ∙ c.if-not-buffers_ok.false in
    (refl, refl, ready a.d a.mem.now a.scratch.now f _ k.scratch_after (sym k.value ∙ c.if-check_structure.true))
