-- `plans::moves::plan_move` meets its contract.
-- Assumes nothing.
use mathlib.Core.Path.{sym, ◌∙◌}
use Rattle.records.specs.Handles.{word_of}
use Rattle.memory.specs.View.{decoded}
use Rattle.verdicts.proofs.Verdicts.{full_told, refused_before, accepted_before}
use Rattle.verdicts.proofs.Refusing.{reparent_number, insert_number}
use Rattle.plans.proofs.Moved.{move_accepted}
use Rattle.plans.proofs.moves.plan_move.Goals as goal

pub moved_fits-requires : goal.moved_fits-requires
moved_fits-requires c = move_accepted (decoded c.args.doc.now.view) (word_of c.args.child) (word_of c.args.parent) _ _ (sym c.in_ok-check_move.ensures)

pub returns-in_err-check_move : goal.returns-in_err-check_move
returns-in_err-check_move c =
    let s = c.args in
    let q = refused_before _ _ _ _ c.from_residual.ensures.1 c.in_err-check_move.ensures in
    record { result_value = q ∙ sym (reparent_number (decoded s.doc.now.view) (word_of s.parent) (word_of s.child)); by_index = λ i. q ∙ sym (insert_number (decoded s.doc.now.view) (word_of s.parent) i (word_of s.child)) }

pub returns : goal.returns
returns c =
    let s = c.args in
    let q = accepted_before _ _ _ c.in_ok-check_move.ensures (full_told _ _ _ c.moved_fits.ensures c.full_unless.ensures) in
    record { result_value = q ∙ sym (reparent_number (decoded s.doc.now.view) (word_of s.parent) (word_of s.child)); by_index = λ i. q ∙ sym (insert_number (decoded s.doc.now.view) (word_of s.parent) i (word_of s.child)) }
