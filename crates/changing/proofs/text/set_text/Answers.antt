-- `changing::text::set_text` meets its contract.
-- Assumes nothing.
use mathlib.Core.Path.{refl}
use borrow.Author.Rules.{rules}
use Rattle.records.specs.Handles.{word_of}
use Rattle.model.specs.Calls.{set-text}
use Rattle.editing.proofs.Editing.{passed_on, unadmitted, unplanned, admits, performs}
use Rattle.changing.proofs.text.set_text.Goals as goal

pub do_set_text-requires : goal.do_set_text-requires
do_set_text-requires c = admits (set-text (word_of c.args.id) c.args.text.now) c.args.d c.args.mem.now _ c.in_ok-doc.doc.view c.in_ok-doc.ensures.ready c.in_ok-plan_set_text.ensures

pub returns-in_err-doc : goal.returns-in_err-doc
returns-in_err-doc c =
    rw (passed_on _ _ c.from_residual.ensures.1) (unadmitted (set-text (word_of c.args.id) c.args.text.now) c.args.d c.args.mem.now c.args.scratch.now _ c.in_err-doc.ensures.result_value _ c.admit.ensures.scratch_after)

pub returns-in_err-plan_set_text : goal.returns-in_err-plan_set_text
returns-in_err-plan_set_text c =
    rw (passed_on _ _ c.from_residual-in_err-plan_set_text.ensures.1)
    (unplanned (set-text (word_of c.args.id) c.args.text.now) c.args.d c.args.mem.now c.args.scratch.now c.in_ok-doc.ensures.result_value c.in_ok-doc.doc.view _ c.in_ok-doc.ensures.ready _ c.in_err-plan_set_text.ensures _ c.admit.ensures.scratch_after)

pub returns : goal.returns
returns c =
    performs (set-text (word_of c.args.id) c.args.text.now) c.args.d c.args.mem.now c.args.scratch.now c.in_ok-doc.ensures.result_value _ _ c.do_set_text.new.lent refl refl refl c.do_set_text.ensures _ (search rules) _ c.admit.ensures.scratch_after
