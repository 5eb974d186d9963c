-- `edits::attributes::append_attribute` meets its contract.
-- Assumes nothing.
use mathlib.Core.Path.{◌∙◌}
use Rattle.records.specs.Handles.{word_of}
use Rattle.edits.proofs.ElementLists.{attribute-stores, attribute-ready, attribute-performed}
use Rattle.edits.proofs.attributes.append_attribute.Goals as goal

pub store_attribute-stored-requires : goal.store_attribute-stored-requires
store_attribute-stored-requires c = attribute-stores c.args.lent.now.document c.args.lent.now.words.now (word_of c.args.element) c.args.name.namespace.now c.args.name.local.now c.args.value.now c.requires.admitted c.requires.local_value

pub append_node-requires : goal.append_node-requires
append_node-requires c =
    let w = c.store_attribute-stored in
    let m = c.new_node-node in
    attribute-ready c.args.lent.now.document c.args.lent.now.words.now (word_of c.args.element) c.args.name.namespace.now c.args.name.local.now c.args.value.now c.requires.admitted c.requires.local_value w.new.lent.document _ w.ensures.step.step m.result w.result.name w.result.value m.ensures w.ensures.name_value w.ensures.value_value

pub returns : goal.returns
returns c =
    let w = c.store_attribute-stored in
    let m = c.new_node-node in
    let n = c.append_node in
    record {
      performed =
          attribute-performed c.args.lent.now.document c.args.lent.now.words.now (word_of c.args.element) c.args.name.namespace.now c.args.name.local.now c.args.value.now c.requires.admitted c.requires.local_value w.new.lent.document _ w.ensures.step.step m.result w.result.name w.result.value m.ensures w.ensures.name_value w.ensures.value_value
          n.new.lent.document _ n.ensures.step.step;
      reference = n.ensures.step.reference ∙ w.ensures.step.reference;
    }
