-- `removing::detach::detach` meets its contract.
-- Assumes nothing.
use mathlib.Core.Path.{refl}
use borrow.Author.Rules.{rules}
use Rattle.records.specs.Handles.{word_of}
use Rattle.model.specs.Calls.{detach}
use Rattle.editing.proofs.Editing.{passed_on, unadmitted, unplanned, admits, performs}
use Rattle.removing.proofs.detach.detach.Goals as goal

pub detach_node-requires : goal.detach_node-requires
detach_node-requires c = admits (detach (word_of c.args.id)) c.args.d c.args.mem.now _ c.in_ok-doc.doc.view c.in_ok-doc.ensures.ready c.in_ok-plan_detach.ensures

pub returns-in_err-doc : goal.returns-in_err-doc
returns-in_err-doc c =
    rw (passed_on _ _ c.from_residual.ensures.1) (unadmitted (detach (word_of c.args.id)) c.args.d c.args.mem.now c.args.scratch.now _ c.in_err-doc.ensures.result_value _ c.admit.ensures.scratch_after)

pub returns-in_err-plan_detach : goal.returns-in_err-plan_detach
returns-in_err-plan_detach c =
    rw (passed_on _ _ c.from_residual-in_err-plan_detach.ensures.1)
    (unplanned (detach (word_of c.args.id)) c.args.d c.args.mem.now c.args.scratch.now c.in_ok-doc.ensures.result_value c.in_ok-doc.doc.view _ c.in_ok-doc.ensures.ready _ c.in_err-plan_detach.ensures _ c.admit.ensures.scratch_after)

pub returns : goal.returns
returns c =
    performs (detach (word_of c.args.id)) c.args.d c.args.mem.now c.args.scratch.now c.in_ok-doc.ensures.result_value _ _ c.detach_node.new.lent refl refl refl c.detach_node.ensures _ (search rules) _ c.admit.ensures.scratch_after
