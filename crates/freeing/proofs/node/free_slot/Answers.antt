-- `freeing::node::free_slot` meets its contract.
-- Assumes nothing.
use mathlib.Core.Path.{ap, ◌∙◌}
use Rattle.layout.specs.declared.Document.{Document}
use Rattle.layout.specs.Record.{with_slots}
use Rattle.edits.proofs.Composed.{stepped}
use Rattle.freeing.proofs.Freed.{slot-freeable, slot-freed}
use Rattle.freeing.proofs.node.free_slot.Goals as goal

pub free_slot-free-requires : goal.free_slot-free-requires
free_slot-free-requires c =
    slot-freeable c.args.lent.now.document c.args.lent.now.words.now c.args.lent.now.fits c.args.slot.0 c.requires

pub returns : goal.returns
returns c =
    let a = c.args in
    let got = c.free_slot-free in
    let put = got.ensures.lent_after in
    stepped _ _ _ _ _ _ put.reference c.put_record.ensures
    (slot-freed a.lent.now.document a.lent.now.words.now a.lent.now.fits a.slot.0 c.requires _ put.words_are _ got.ensures.value _
    (c.with_slots.ensures ∙ ap (λ (d : Document). with_slots d d.counts.slots got.result) put.record_is))
