-- `edits::replace::fill_field` meets its contract.
-- Assumes nothing.
use mathlib.Core.Path.{◌∙◌}
use Rattle.records.specs.Handles.{word_of}
use Rattle.edits.proofs.Replaced.{fill-node, fill_step}
use Rattle.edits.proofs.replace.fill_field.Goals as goal

pub put_field-requires : goal.put_field-requires
put_field-requires c =
    let w = c.store_text-stored in
    (fill-node c.args.lent.now.document c.args.lent.now.words.now (word_of c.args.id) c.args.text.now w.new.lent.document _ w.ensures.step.step c.requires.0, w.ensures.field_value.1)

pub returns : goal.returns
returns c =
    let w = c.store_text-stored in
    let put = c.put_field in
    record {
      step = fill_step c.args.lent.now.document c.args.lent.now.words.now (word_of c.args.id) c.args.text.now w.new.lent.document _ w.ensures.step.step w.result w.ensures.field_value.0 put.new.lent.document _ put.ensures.step;
      reference = put.ensures.reference ∙ w.ensures.step.reference;
    }
