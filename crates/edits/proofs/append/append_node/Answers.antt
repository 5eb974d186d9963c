-- `edits::append::append_node` meets its contract.
-- Assumes nothing.
use mathlib.Core.Path.{◌∙◌}
use Rattle.records.specs.Handles.{word_of}
use Rattle.layout.specs.Layout.{which_of}
use Rattle.memory.specs.Decode.{kind_of}
use Rattle.edits.proofs.Appending.{appended-ready, append-step}
use Rattle.edits.proofs.append.append_node.Goals as goal

pub attach_last-requires : goal.attach_last-requires
attach_last-requires c =
    let a = c.args in
    let made = c.born-made in
    appended-ready a.lent.now.document a.lent.now.words.now (which_of a.arena) (word_of a.parent) c.requires.0 (kind_of a.node.«data») made.new.lent.document _ made.ensures.step.step (word_of made.result) made.ensures.id_value

pub returns : goal.returns
returns c =
    let a = c.args in
    let made = c.born-made in
    let linked = c.attach_last in
    record {
      step =
          record {
            step =
                append-step a.lent.now.document a.lent.now.words.now (which_of a.arena) (word_of a.parent) c.requires.0 (kind_of a.node.«data») made.new.lent.document _ made.ensures.step.step (word_of made.result) made.ensures.id_value
                linked.new.lent.document _ linked.ensures.step;
            reference = linked.ensures.reference ∙ made.ensures.step.reference;
          };
      id_value = made.ensures.id_value;
    }
