-- `removing::attribute::remove_attribute` meets its contract.
-- Assumes nothing.
use mathlib.Core.Path.{refl, sym, ap, ◌∙◌}
use borrow.Author.Rules.{rules}
use Rattle.records.specs.Handles.{word_of}
use Rattle.model.specs.Calls.{remove-attribute}
use Rattle.memory.specs.Decode.{handle_of}
use Rattle.editing.proofs.Editing.{passed_on, unadmitted, unplanned, admits, scratch-enough, steps, remains}
use Rattle.removing.proofs.Attributes.{found_removable, removes_found, removes_none}
use Rattle.removing.proofs.attribute.remove_attribute.Goals as goal

pub remove_node-requires : goal.remove_node-requires
remove_node-requires c =
    let ready = c.in_ok-doc.ensures.ready.2 in
    record {
      scratch_value = scratch-enough c.args.d c.args.mem.now _ ready;
      rules = ready.undamaged.rules;
      id_value = found_removable c.args.d c.args.mem.now (word_of c.args.element) c.args.namespace.now c.args.local.now (admits (remove-attribute (word_of c.args.element) c.args.namespace.now c.args.local.now) c.args.d c.args.mem.now _ c.in_ok-doc.doc.view c.in_ok-doc.ensures.ready c.in_ok-found.ensures.verdict_value) _ (sym (rw (c.in_ok-doc.ensures.ready.0, c.in_ok-doc.ensures.ready.1) at c.in_ok-found.ensures.found_value) ∙ ap handle_of c.in-Some.is);
    }

pub returns-in_err-doc : goal.returns-in_err-doc
returns-in_err-doc c =
    rw (passed_on _ _ c.from_residual.ensures.1) (unadmitted (remove-attribute (word_of c.args.element) c.args.namespace.now c.args.local.now) c.args.d c.args.mem.now c.args.scratch.now _ c.in_err-doc.ensures.result_value _ c.admit.ensures.scratch_after)

pub returns-in_err-found : goal.returns-in_err-found
returns-in_err-found c =
    rw (passed_on _ _ c.from_residual-in_err-found.ensures.1)
    (unplanned (remove-attribute (word_of c.args.element) c.args.namespace.now c.args.local.now) c.args.d c.args.mem.now c.args.scratch.now c.in_ok-doc.ensures.result_value c.in_ok-doc.doc.view _ c.in_ok-doc.ensures.ready _ c.in_err-found.ensures.verdict_value _ c.admit.ensures.scratch_after)

pub returns : goal.returns
returns c =
    steps (remove-attribute (word_of c.args.element) c.args.namespace.now c.args.local.now) c.args.d c.args.mem.now c.args.scratch.now c.in_ok-doc.ensures.result_value _ _ c.remove_node.new.lent refl refl refl _ c.remove_node.ensures.step
    (removes_found c.args.d c.args.mem.now (word_of c.args.element) c.args.namespace.now c.args.local.now (admits (remove-attribute (word_of c.args.element) c.args.namespace.now c.args.local.now) c.args.d c.args.mem.now _ c.in_ok-doc.doc.view c.in_ok-doc.ensures.ready c.in_ok-found.ensures.verdict_value) _ (sym (rw (c.in_ok-doc.ensures.ready.0, c.in_ok-doc.ensures.ready.1) at c.in_ok-found.ensures.found_value) ∙ ap handle_of c.in-Some.is)) _ (search rules)
    _ (c.remove_node.ensures.scratch_after ∙ sym c.in_ok-doc.ensures.ready.2.zero ∙ c.admit.ensures.scratch_after)

pub returns-in_default : goal.returns-in_default
returns-in_default c =
    remains (remove-attribute (word_of c.args.element) c.args.namespace.now c.args.local.now) c.args.d c.args.mem.now c.args.scratch.now c.in_ok-doc.ensures.result_value _ refl (removes_none c.args.d c.args.mem.now (word_of c.args.element) c.args.namespace.now c.args.local.now (admits (remove-attribute (word_of c.args.element) c.args.namespace.now c.args.local.now) c.args.d c.args.mem.now _ c.in_ok-doc.doc.view c.in_ok-doc.ensures.ready c.in_ok-found.ensures.verdict_value) (sym (rw (c.in_ok-doc.ensures.ready.0, c.in_ok-doc.ensures.ready.1) at c.in_ok-found.ensures.found_value) ∙ ap handle_of c.in_default.is)) _ c.admit.ensures.scratch_after
