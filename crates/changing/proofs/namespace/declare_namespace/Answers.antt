-- `changing::namespace::declare_namespace` meets its contract.
-- Assumes nothing.
use mathlib.Core.Path.{refl}
use borrow.Author.Rules.{rules}
use Rattle.records.specs.Handles.{word_of}
use Rattle.model.specs.Calls.{declare-namespace}
use Rattle.editing.proofs.Editing.{passed_on, unadmitted, unplanned, admits, performs}
use Rattle.changing.proofs.namespace.declare_namespace.Goals as goal

pub put_namespace-id-requires : goal.put_namespace-id-requires
put_namespace-id-requires c =
    record { admitted = admits (declare-namespace (word_of c.args.element) c.args.prefix.now c.args.uri.now) c.args.d c.args.mem.now _ c.in_ok-doc.doc.view c.in_ok-doc.ensures.ready c.in_ok-found.ensures.verdict_value; found_value = rw (c.in_ok-doc.ensures.ready.0, c.in_ok-doc.ensures.ready.1) at c.in_ok-found.ensures.found_value }

pub returns-in_err-doc : goal.returns-in_err-doc
returns-in_err-doc c =
    rw (passed_on _ _ c.from_residual.ensures.1) (unadmitted (declare-namespace (word_of c.args.element) c.args.prefix.now c.args.uri.now) c.args.d c.args.mem.now c.args.scratch.now _ c.in_err-doc.ensures.result_value _ c.admit.ensures.scratch_after)

pub returns-in_err-found : goal.returns-in_err-found
returns-in_err-found c =
    rw (passed_on _ _ c.from_residual-in_err-found.ensures.1)
    (unplanned (declare-namespace (word_of c.args.element) c.args.prefix.now c.args.uri.now) c.args.d c.args.mem.now c.args.scratch.now c.in_ok-doc.ensures.result_value c.in_ok-doc.doc.view _ c.in_ok-doc.ensures.ready _ c.in_err-found.ensures.verdict_value _ c.admit.ensures.scratch_after)

pub returns : goal.returns
returns c =
    performs (declare-namespace (word_of c.args.element) c.args.prefix.now c.args.uri.now) c.args.d c.args.mem.now c.args.scratch.now c.in_ok-doc.ensures.result_value _ _ c.put_namespace-id.new.lent refl refl refl c.put_namespace-id.ensures _ (search rules) _ c.admit.ensures.scratch_after
