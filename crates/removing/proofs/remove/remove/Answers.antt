-- `removing::remove::remove` meets its contract.
-- Assumes nothing.
use mathlib.Core.Path.{refl, sym, ◌∙◌}
use borrow.Author.Rules.{rules}
use Rattle.records.specs.Handles.{word_of}
use Rattle.model.specs.Calls.{remove}
use Rattle.editing.proofs.Editing.{passed_on, seen, unadmitted, unplanned, scratch-enough, steps}
use Rattle.removing.proofs.Removable.{removable, removes}
use Rattle.removing.proofs.remove.remove.Goals as goal

pub remove_node-requires : goal.remove_node-requires
remove_node-requires c =
    let ready = c.in_ok-doc.ensures.ready.2 in
    record { scratch_value = scratch-enough c.args.d c.args.mem.now _ ready; rules = ready.undamaged.rules; id_value = removable c.args.d c.args.mem.now (word_of c.args.id) (seen (remove (word_of c.args.id)) c.args.d c.args.mem.now _ c.in_ok-doc.doc.view c.in_ok-doc.ensures.ready _ c.in_ok-plan_remove.ensures) }

pub returns-in_err-doc : goal.returns-in_err-doc
returns-in_err-doc c =
    rw (passed_on _ _ c.from_residual.ensures.1) (unadmitted (remove (word_of c.args.id)) c.args.d c.args.mem.now c.args.scratch.now _ c.in_err-doc.ensures.result_value _ c.admit.ensures.scratch_after)

pub returns-in_err-plan_remove : goal.returns-in_err-plan_remove
returns-in_err-plan_remove c =
    rw (passed_on _ _ c.from_residual-in_err-plan_remove.ensures.1)
    (unplanned (remove (word_of c.args.id)) c.args.d c.args.mem.now c.args.scratch.now c.in_ok-doc.ensures.result_value c.in_ok-doc.doc.view _ c.in_ok-doc.ensures.ready _ c.in_err-plan_remove.ensures _ c.admit.ensures.scratch_after)

pub returns : goal.returns
returns c =
    steps (remove (word_of c.args.id)) c.args.d c.args.mem.now c.args.scratch.now c.in_ok-doc.ensures.result_value _ _ c.remove_node.new.lent refl refl refl _ c.remove_node.ensures.step
    (removes c.args.d c.args.mem.now (word_of c.args.id) (seen (remove (word_of c.args.id)) c.args.d c.args.mem.now _ c.in_ok-doc.doc.view c.in_ok-doc.ensures.ready _ c.in_ok-plan_remove.ensures)) _ (search rules)
    _ (c.remove_node.ensures.scratch_after ∙ sym c.in_ok-doc.ensures.ready.2.zero ∙ c.admit.ensures.scratch_after)
