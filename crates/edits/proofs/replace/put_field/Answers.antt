-- `edits::replace::put_field` meets its contract.
-- Assumes nothing.
use native.Mathlib.Omega.{arith}
use mathlib.Core.Path.{refl, sym, ◌∙◌}
use Rattle.edits.proofs.Composed.{stepped}
use Rattle.edits.proofs.Moved.{node-slot, not_none}
use Rattle.edits.proofs.Fields.{field_step}
use Rattle.edits.proofs.replace.put_field.Goals as goal

pub load-requires : goal.load-requires
load-requires c = rw c.view.ensures.0 (node-slot c.args.lent.now.document c.args.lent.now.words.now c.args.id (omega (arith, c.well_formed)) c.requires.0)

pub put_node-requires : goal.put_node-requires
put_node-requires c = node-slot c.args.lent.now.document c.args.lent.now.words.now c.args.id (omega (arith, c.well_formed)) c.requires.0

pub returns-in-Some : goal.returns-in-Some
returns-in-Some c =
    let m = c.filled in
    stepped _ _ _ _ _ _ refl c.put_node.ensures
    (field_step c.args.lent.now.document c.args.lent.now.words.now c.args.id (omega (arith, c.well_formed)) c.requires.0 _ (sym (rw (c.view.ensures.0, c.view.ensures.1) at c.load.ensures) ∙ c.in-Some.is) c.args.field c.requires.1 m.result m.ensures)

pub returns-in_default : goal.returns-in_default
returns-in_default c =
    absurd (not_none c.args.lent.now.document c.args.lent.now.words.now c.args.id (omega (arith, c.well_formed)) c.requires.0 (sym (rw (c.view.ensures.0, c.view.ensures.1) at c.load.ensures) ∙ c.in_default.is))
