-- `edits::append::do_append_pi` meets its contract.
-- Assumes nothing.
use mathlib.Core.Path.{◌∙◌}
use Rattle.records.specs.Handles.{word_of}
use Rattle.edits.proofs.Appends.{pi-storable, pi-ready, pi-performed}
use Rattle.edits.proofs.append.do_append_pi.Goals as goal

pub store_two-stored-requires : goal.store_two-stored-requires
store_two-stored-requires c = pi-storable c.args.lent.now.document c.args.lent.now.words.now (word_of c.args.parent) c.args.target.now c.args.content.now c.requires

pub append_node-requires : goal.append_node-requires
append_node-requires c =
    let w = c.store_two-stored in
    let m = c.new_node-node in
    pi-ready c.args.lent.now.document c.args.lent.now.words.now (word_of c.args.parent) c.args.target.now c.args.content.now c.requires w.new.lent.document _ w.ensures.step.step m.result w.result.first w.result.second m.ensures w.ensures.first_value w.ensures.second_value

pub returns : goal.returns
returns c =
    let w = c.store_two-stored in
    let m = c.new_node-node in
    let n = c.append_node in
    record {
      performed =
          pi-performed c.args.lent.now.document c.args.lent.now.words.now (word_of c.args.parent) c.args.target.now c.args.content.now c.requires w.new.lent.document _ w.ensures.step.step m.result w.result.first w.result.second m.ensures w.ensures.first_value w.ensures.second_value
          n.new.lent.document _ (word_of n.result) (n.ensures.step.step, n.ensures.id_value);
      reference = n.ensures.step.reference ∙ w.ensures.step.reference;
    }
