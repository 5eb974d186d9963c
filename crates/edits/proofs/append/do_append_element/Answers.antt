-- `edits::append::do_append_element` meets its contract.
-- Assumes nothing.
use mathlib.Core.Path.{◌∙◌}
use Rattle.records.specs.Handles.{word_of}
use Rattle.edits.proofs.Appends.{element-internable, element-ready, element-performed}
use Rattle.edits.proofs.append.do_append_element.Goals as goal

pub intern_name-interned-requires : goal.intern_name-interned-requires
intern_name-interned-requires c = element-internable c.args.lent.now.document c.args.lent.now.words.now (word_of c.args.parent) c.args.name.namespace.now c.args.name.local.now c.requires

pub append_node-requires : goal.append_node-requires
append_node-requires c =
    let w = c.intern_name-interned in
    let m = c.new_node-node in
    element-ready c.args.lent.now.document c.args.lent.now.words.now (word_of c.args.parent) c.args.name.namespace.now c.args.name.local.now c.requires w.new.lent.document _ w.ensures.step.step m.result w.result m.ensures w.ensures.name_value

pub returns : goal.returns
returns c =
    let w = c.intern_name-interned in
    let m = c.new_node-node in
    let n = c.append_node in
    record {
      performed =
          element-performed c.args.lent.now.document c.args.lent.now.words.now (word_of c.args.parent) c.args.name.namespace.now c.args.name.local.now c.requires w.new.lent.document _ w.ensures.step.step m.result w.result m.ensures w.ensures.name_value
          n.new.lent.document _ (word_of n.result) (n.ensures.step.step, n.ensures.id_value);
      reference = n.ensures.step.reference ∙ w.ensures.step.reference;
    }
