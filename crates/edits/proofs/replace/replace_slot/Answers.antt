-- `edits::replace::replace_slot` meets its contract.
-- Assumes nothing.
use mathlib.Core.Path.{ap, ◌∙◌}
use Rattle.layout.specs.declared.Document.{Document}
use Rattle.layout.specs.Record.{with_texts}
use Rattle.edits.proofs.Composed.{stepped}
use Rattle.edits.proofs.Fields.{over-asked, over-step}
use Rattle.edits.proofs.replace.replace_slot.Goals as goal

pub write_over-counts-requires : goal.write_over-counts-requires
write_over-counts-requires c =
    over-asked c.args.lent.now.document c.args.lent.now.words.now c.args.slot.0 c.args.text.now c.requires

pub returns : goal.returns
returns c =
    let w = c.write_over-counts in
    let put = w.ensures.lent_after in
    stepped _ _ _ _ _ _ put.reference c.put_record.ensures
    (over-step c.args.lent.now.document c.args.lent.now.words.now c.args.slot.0 c.args.text.now c.requires _ w.result w.ensures.replaced_to put.words_are _ (c.with_texts.ensures ∙ ap (λ (x : Document). with_texts x w.result) put.record_is))
