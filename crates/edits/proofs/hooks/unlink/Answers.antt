-- `edits::hooks::unlink` meets its contract.
-- Assumes nothing.
use mathlib.Core.Path.{sym, ◌∙◌}
use native.Mathlib.Omega.{arith}
use Rattle.edits.proofs.Moved.{node-slot, not_none}
use Rattle.edits.proofs.hooks.unlink.Goals as goal

pub load-requires : goal.load-requires
load-requires c =
    let a = c.args in
    rw c.view.ensures.0 (node-slot a.lent.now.document a.lent.now.words.now a.id (omega (arith, c.well_formed)) c.requires.node)

pub returns-in_default : goal.returns-in_default
returns-in_default c =
    let a = c.args in
    absurd (not_none a.lent.now.document a.lent.now.words.now a.id (omega (arith, c.well_formed)) c.requires.node (sym (rw (c.view.ensures.0, c.view.ensures.1) at c.load.ensures) ∙ c.in_default.is))
