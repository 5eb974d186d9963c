-- `freeing::release::push_slot` meets its contract.
-- Assumes nothing.
use mathlib.Core.Path.{ap, ◌∙◌}
use Rattle.layout.specs.declared.Document.{Document}
use Rattle.layout.specs.Record.{with_texts}
use Rattle.edits.proofs.Composed.{stepped}
use Rattle.freeing.proofs.Lent.{slot-pushable, slot_pushed}
use Rattle.freeing.proofs.release.push_slot.Goals as goal

pub push_text-after-requires : goal.push_text-after-requires
push_text-after-requires c =
    slot-pushable c.args.lent.now.document c.args.lent.now.words.now c.args.lent.now.fits c.args.slot.0 c.requires

pub returns : goal.returns
returns c =
    let a = c.args in
    let got = c.push_text-after in
    let put = got.ensures.lent_after in
    stepped _ _ _ _ _ _ put.reference c.put_record.ensures
    (slot_pushed a.lent.now.document a.lent.now.words.now a.lent.now.fits a.slot.0 c.requires _ got.result got.ensures.pushed_to put.words_are _
    (c.with_texts.ensures ∙ ap (λ (d : Document). with_texts d got.result) put.record_is))
