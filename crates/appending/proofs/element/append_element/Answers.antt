-- `appending::element::append_element` meets its contract.
-- Assumes nothing.
use mathlib.Core.Path.{refl}
use borrow.Author.Rules.{rules}
use Rattle.records.specs.Handles.{word_of}
use Rattle.model.specs.Calls.{append-element}
use Rattle.editing.proofs.Editing.{passed_on, unadmitted, unplanned, admits, performs}
use Rattle.appending.proofs.element.append_element.Goals as goal

pub do_append_element-id-requires : goal.do_append_element-id-requires
do_append_element-id-requires c = admits (append-element (word_of c.args.parent) c.args.namespace.now c.args.local.now) c.args.d c.args.mem.now _ c.in_ok-doc.doc.view c.in_ok-doc.ensures.ready c.in_ok-plan_append_element.ensures

pub returns-in_err-doc : goal.returns-in_err-doc
returns-in_err-doc c =
    rw (passed_on _ _ c.from_residual.ensures.1) (unadmitted (append-element (word_of c.args.parent) c.args.namespace.now c.args.local.now) c.args.d c.args.mem.now c.args.scratch.now _ c.in_err-doc.ensures.result_value _ c.admit.ensures.scratch_after)

pub returns-in_err-plan_append_element : goal.returns-in_err-plan_append_element
returns-in_err-plan_append_element c =
    rw (passed_on _ _ c.from_residual-in_err-plan_append_element.ensures.1)
    (unplanned (append-element (word_of c.args.parent) c.args.namespace.now c.args.local.now) c.args.d c.args.mem.now c.args.scratch.now c.in_ok-doc.ensures.result_value c.in_ok-doc.doc.view _ c.in_ok-doc.ensures.ready _ c.in_err-plan_append_element.ensures _ c.admit.ensures.scratch_after)

pub returns : goal.returns
returns c =
    performs (append-element (word_of c.args.parent) c.args.namespace.now c.args.local.now) c.args.d c.args.mem.now c.args.scratch.now c.in_ok-doc.ensures.result_value _ _ c.do_append_element-id.new.lent refl refl refl c.do_append_element-id.ensures _ (search rules) _ c.admit.ensures.scratch_after
