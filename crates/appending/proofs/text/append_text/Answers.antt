-- `appending::text::append_text` meets its contract.
-- Assumes nothing.
use mathlib.Core.Path.{refl}
use borrow.Author.Rules.{rules}
use Rattle.records.specs.Handles.{word_of}
use Rattle.model.specs.Calls.{append-text}
use Rattle.editing.proofs.Editing.{passed_on, unadmitted, unplanned, admits, performs}
use Rattle.appending.proofs.text.append_text.Goals as goal

pub do_append_text-id-requires : goal.do_append_text-id-requires
do_append_text-id-requires c = admits (append-text (word_of c.args.parent) c.args.text.now) c.args.d c.args.mem.now _ c.in_ok-doc.doc.view c.in_ok-doc.ensures.ready c.in_ok-plan_append_text.ensures

pub returns-in_err-doc : goal.returns-in_err-doc
returns-in_err-doc c =
    rw (passed_on _ _ c.from_residual.ensures.1) (unadmitted (append-text (word_of c.args.parent) c.args.text.now) c.args.d c.args.mem.now c.args.scratch.now _ c.in_err-doc.ensures.result_value _ c.admit.ensures.scratch_after)

pub returns-in_err-plan_append_text : goal.returns-in_err-plan_append_text
returns-in_err-plan_append_text c =
    rw (passed_on _ _ c.from_residual-in_err-plan_append_text.ensures.1)
    (unplanned (append-text (word_of c.args.parent) c.args.text.now) c.args.d c.args.mem.now c.args.scratch.now c.in_ok-doc.ensures.result_value c.in_ok-doc.doc.view _ c.in_ok-doc.ensures.ready _ c.in_err-plan_append_text.ensures _ c.admit.ensures.scratch_after)

pub returns : goal.returns
returns c =
    performs (append-text (word_of c.args.parent) c.args.text.now) c.args.d c.args.mem.now c.args.scratch.now c.in_ok-doc.ensures.result_value _ _ c.do_append_text-id.new.lent refl refl refl c.do_append_text-id.ensures _ (search rules) _ c.admit.ensures.scratch_after
