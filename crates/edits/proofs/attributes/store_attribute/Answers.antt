-- `edits::attributes::store_attribute` meets its contract.
-- Assumes nothing.
use mathlib.Core.Path.{◌∙◌}
use Rattle.names.specs.Expanded.{expanded}
use Rattle.edits.proofs.ElementLists.{value-storable, attribute-step, value-field}
use Rattle.edits.proofs.attributes.store_attribute.Goals as goal

pub store_text-stored-requires : goal.store_text-stored-requires
store_text-stored-requires c =
    let i = c.intern_name-interned in
    value-storable c.args.lent.now.document c.args.lent.now.words.now (expanded c.args.name) c.args.value.now c.requires.0 c.requires.1 i.new.lent.document _ i.ensures.step.step

pub returns : goal.returns
returns c =
    let d = c.args.lent.now.document in
    let mem = c.args.lent.now.words.now in
    let n = expanded c.args.name in
    let v = c.args.value.now in
    let i = c.intern_name-interned in
    let t = c.store_text-stored in
    record {
      step = record { step = attribute-step d mem n v c.requires.0 c.requires.1 i.new.lent.document _ i.ensures.step.step t.new.lent.document _ t.ensures.step.step; reference = t.ensures.step.reference ∙ i.ensures.step.reference };
      name_value = i.ensures.name_value;
      value_value = (value-field d mem n v c.requires.0 c.requires.1 i.new.lent.document _ i.ensures.step.step t.result t.ensures.field_value.0, t.ensures.field_value.1);
    }
