-- `edits::hooks::unlink_node` meets its contract.
-- Assumes nothing.
use mathlib.Core.Path.{refl}
use native.Mathlib.Omega.{arith}
use Rattle.layout.specs.Layout.{which_of}
use Rattle.edits.proofs.Composed.{stepped}
use Rattle.edits.proofs.Moved.{parent-held, unlink-none, unlink-some}
use Rattle.edits.proofs.hooks.unlink_node.Goals as goal

pub drop_entry-requires : goal.drop_entry-requires
drop_entry-requires c =
    let a = c.args in
    let arena = c.arena_of-arena in
    parent-held a.lent.now.document a.lent.now.words.now a.id (omega (arith, c.well_formed)) c.requires.0 a.node c.requires.1 _ c.in-Some.is (which_of arena.result) arena.ensures

pub returns-in_default : goal.returns-in_default
returns-in_default c =
    let a = c.args in
    record { step = unlink-none a.lent.now.document a.lent.now.words.now a.id (omega (arith, c.well_formed)) c.requires.0 a.node c.requires.1 c.in_default.is; reference = refl }

pub returns-in-Some : goal.returns-in-Some
returns-in-Some c =
    let a = c.args in
    let arena = c.arena_of-arena in
    stepped _ _ _ _ _ _ refl c.drop_entry.ensures
    (unlink-some a.lent.now.document a.lent.now.words.now a.id (omega (arith, c.well_formed)) c.requires.0 a.node c.requires.1 _ c.in-Some.is (which_of arena.result) arena.ensures _ c.from.ensures)
