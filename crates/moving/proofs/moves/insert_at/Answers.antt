-- `moving::moves::insert_at` meets its contract.
-- Assumes nothing.
use mathlib.Core.Path.{refl}
use borrow.Author.Rules.{rules}
use Rattle.records.specs.Handles.{word_of}
use Rattle.model.specs.Calls.{insert-at}
use Rattle.editing.proofs.Editing.{passed_on, unadmitted, unplanned, admits, performs}
use Rattle.moving.proofs.moves.insert_at.Goals as goal

pub move_to-requires : goal.move_to-requires
move_to-requires c = admits (insert-at (word_of c.args.parent) c.args.at (word_of c.args.child)) c.args.d c.args.mem.now _ c.in_ok-doc.doc.view c.in_ok-doc.ensures.ready (c.in_ok-plan_move.ensures.by_index c.args.at)

pub returns-in_err-doc : goal.returns-in_err-doc
returns-in_err-doc c =
    rw (passed_on _ _ c.from_residual.ensures.1) (unadmitted (insert-at (word_of c.args.parent) c.args.at (word_of c.args.child)) c.args.d c.args.mem.now c.args.scratch.now _ c.in_err-doc.ensures.result_value _ c.admit.ensures.scratch_after)

pub returns-in_err-plan_move : goal.returns-in_err-plan_move
returns-in_err-plan_move c =
    rw (passed_on _ _ c.from_residual-in_err-plan_move.ensures.1)
    (unplanned (insert-at (word_of c.args.parent) c.args.at (word_of c.args.child)) c.args.d c.args.mem.now c.args.scratch.now c.in_ok-doc.ensures.result_value c.in_ok-doc.doc.view _ c.in_ok-doc.ensures.ready _ (c.in_err-plan_move.ensures.by_index c.args.at) _ c.admit.ensures.scratch_after)

pub returns : goal.returns
returns c =
    performs (insert-at (word_of c.args.parent) c.args.at (word_of c.args.child)) c.args.d c.args.mem.now c.args.scratch.now c.in_ok-doc.ensures.result_value _ _ c.move_to.new.lent refl refl refl c.move_to.ensures _ (search rules) _ c.admit.ensures.scratch_after
