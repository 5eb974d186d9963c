-- `moving::moves::reparent` meets its contract.
-- Assumes nothing.
use mathlib.Core.Path.{refl}
use borrow.Author.Rules.{rules}
use Rattle.records.specs.Handles.{word_of}
use Rattle.model.specs.Calls.{reparent}
use Rattle.editing.proofs.Editing.{passed_on, unadmitted, unplanned, admits, performs}
use Rattle.moving.proofs.moves.reparent.Goals as goal

pub move_last-requires : goal.move_last-requires
move_last-requires c = admits (reparent (word_of c.args.child) (word_of c.args.parent)) c.args.d c.args.mem.now _ c.in_ok-doc.doc.view c.in_ok-doc.ensures.ready c.in_ok-plan_move.ensures.result_value

pub returns-in_err-doc : goal.returns-in_err-doc
returns-in_err-doc c =
    rw (passed_on _ _ c.from_residual.ensures.1) (unadmitted (reparent (word_of c.args.child) (word_of c.args.parent)) c.args.d c.args.mem.now c.args.scratch.now _ c.in_err-doc.ensures.result_value _ c.admit.ensures.scratch_after)

pub returns-in_err-plan_move : goal.returns-in_err-plan_move
returns-in_err-plan_move c =
    rw (passed_on _ _ c.from_residual-in_err-plan_move.ensures.1)
    (unplanned (reparent (word_of c.args.child) (word_of c.args.parent)) c.args.d c.args.mem.now c.args.scratch.now c.in_ok-doc.ensures.result_value c.in_ok-doc.doc.view _ c.in_ok-doc.ensures.ready _ c.in_err-plan_move.ensures.result_value _ c.admit.ensures.scratch_after)

pub returns : goal.returns
returns c =
    performs (reparent (word_of c.args.child) (word_of c.args.parent)) c.args.d c.args.mem.now c.args.scratch.now c.in_ok-doc.ensures.result_value _ _ c.move_last.new.lent refl refl refl c.move_last.ensures _ (search rules) _ c.admit.ensures.scratch_after
