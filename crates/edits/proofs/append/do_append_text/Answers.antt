-- `edits::append::do_append_text` meets its contract.
-- Assumes nothing.
use mathlib.Core.Path.{◌∙◌}
use Rattle.records.specs.Handles.{word_of}
use Rattle.edits.proofs.Appends.{text-storable, text-ready, text-performed}
use Rattle.edits.proofs.append.do_append_text.Goals as goal

pub store_text-stored-requires : goal.store_text-stored-requires
store_text-stored-requires c = text-storable c.args.lent.now.document c.args.lent.now.words.now (word_of c.args.parent) c.args.text.now c.requires

pub append_node-requires : goal.append_node-requires
append_node-requires c =
    let w = c.store_text-stored in
    let m = c.new_node-node in
    text-ready c.args.lent.now.document c.args.lent.now.words.now (word_of c.args.parent) c.args.text.now c.requires w.new.lent.document _ w.ensures.step.step m.result w.result m.ensures w.ensures.field_value

pub returns : goal.returns
returns c =
    let w = c.store_text-stored in
    let m = c.new_node-node in
    let n = c.append_node in
    record {
      performed =
          text-performed c.args.lent.now.document c.args.lent.now.words.now (word_of c.args.parent) c.args.text.now c.requires w.new.lent.document _ w.ensures.step.step m.result w.result m.ensures w.ensures.field_value
          n.new.lent.document _ (word_of n.result) (n.ensures.step.step, n.ensures.id_value);
      reference = n.ensures.step.reference ∙ w.ensures.step.reference;
    }
