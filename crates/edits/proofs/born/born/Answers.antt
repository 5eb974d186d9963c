-- `edits::born::born` meets its contract.
-- Assumes nothing.
use mathlib.Core.Path.{ap, ◌∙◌}
use Rattle.layout.specs.declared.Document.{Document}
use Rattle.layout.specs.Record.{with_slots}
use Rattle.edits.proofs.Composed.{stepped}
use Rattle.edits.proofs.Taking.{can-take}
use Rattle.edits.proofs.Bearing.{taken-slot, taken_next, born-step}
use Rattle.edits.proofs.born.born.Goals as goal

pub take_slot-taken-requires : goal.take_slot-taken-requires
take_slot-taken-requires c = can-take c.args.lent.now.document c.args.lent.now.words.now c.requires.0

pub put_node-requires : goal.put_node-requires
put_node-requires c =
    let a = c.args in
    let got = c.take_slot-taken in
    rw got.ensures.lent_after.record_is (taken-slot a.lent.now.document a.lent.now.words.now c.requires.0 got.result got.ensures.value)

pub returns : goal.returns
returns c =
    let a = c.args in
    let got = c.take_slot-taken in
    let took = got.ensures.lent_after in
    let put = c.put_node.ensures in
    record {
      step =
          stepped _ _ _ _ _ _ (put.reference ∙ took.reference) c.put_record.ensures
          (born-step a.lent.now.document a.lent.now.words.now c.requires.0 _ took.words_are a.node c.requires.1 got.result got.ensures.value _ (rw took.record_is at put.words_are) _
          (c.with_slots.ensures ∙ ap (λ (x : Document). with_slots x got.result.made got.result.free) (put.record_is ∙ took.record_is)));
      id_value = taken_next a.lent.now.document a.lent.now.words.now c.requires.0 got.result got.ensures.value;
    }
