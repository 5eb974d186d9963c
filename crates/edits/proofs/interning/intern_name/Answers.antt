-- `edits::interning::intern_name` meets its contract.
-- Assumes nothing.
use mathlib.Core.Path.{ap, ◌∙◌}
use Rattle.names.specs.Expanded.{expanded}
use Rattle.layout.specs.declared.Document.{Document}
use Rattle.layout.specs.Record.{with_names}
use Rattle.edits.proofs.Composed.{stepped}
use Rattle.edits.proofs.Interned.{intern-asked, number-narrow, intern-step, interned-number}
use Rattle.edits.proofs.interning.intern_name.Goals as goal

pub write_name-interned-requires : goal.write_name-interned-requires
write_name-interned-requires c =
    intern-asked c.args.lent.now.document c.args.lent.now.words.now (expanded c.args.name) c.requires

pub returns : goal.returns
returns c =
    let d = c.args.lent.now.document in
    let mem = c.args.lent.now.words.now in
    let n = expanded c.args.name in
    let w = c.write_name-interned in
    let put = w.ensures.lent_after in
    record {
      step =
          stepped _ _ _ _ _ _ put.reference c.put_record.ensures
          (intern-step d mem n c.requires _ w.result w.ensures.interned_to put.words_are _ (c.with_names.ensures ∙ ap (λ (x : Document). with_names x w.result.counts) put.record_is));
      name_value = (interned-number d mem n c.requires _ w.result w.ensures.interned_to, number-narrow d mem n c.requires _ w.result w.ensures.interned_to);
    }
