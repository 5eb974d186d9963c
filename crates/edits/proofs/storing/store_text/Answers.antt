-- `edits::storing::store_text` meets its contract.
-- Assumes nothing.
use mathlib.Core.Path.{ap, ◌∙◌}
use Rattle.layout.specs.declared.Document.{Document}
use Rattle.layout.specs.Record.{with_texts}
use Rattle.edits.proofs.Composed.{stepped}
use Rattle.edits.proofs.Stored.{store-asked, store_step, stored-field}
use Rattle.edits.proofs.storing.store_text.Goals as goal

pub write_text-stored-requires : goal.write_text-stored-requires
write_text-stored-requires c =
    store-asked c.args.lent.now.document c.args.lent.now.words.now c.args.text.now c.requires

pub returns : goal.returns
returns c =
    let d = c.args.lent.now.document in
    let mem = c.args.lent.now.words.now in
    let t = c.args.text.now in
    let w = c.write_text-stored in
    let put = w.ensures.lent_after in
    let f = c.chars_of in
    record {
      step =
          stepped _ _ _ _ _ _ put.reference c.put_record.ensures
          (store_step d mem t c.requires _ w.result w.ensures.stored_to put.words_are _ (c.with_texts.ensures ∙ ap (λ (x : Document). with_texts x w.result.counts) put.record_is));
      field_value = (stored-field d mem t c.requires _ w.result w.ensures.stored_to f.result f.ensures.0, f.ensures.1);
    }
