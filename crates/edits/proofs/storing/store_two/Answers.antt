-- `edits::storing::store_two` meets its contract.
-- Assumes nothing.
use mathlib.Core.Path.{◌∙◌}
use Rattle.edits.proofs.Stored.{first-storable, second-storable, two-step, second-field}
use Rattle.edits.proofs.storing.store_two.Goals as goal

pub store_text-one-requires : goal.store_text-one-requires
store_text-one-requires c = first-storable c.args.lent.now.document c.args.lent.now.words.now c.args.first.now c.args.second.now c.requires

pub store_text-two-requires : goal.store_text-two-requires
store_text-two-requires c =
    let a = c.store_text-one in
    second-storable c.args.lent.now.document c.args.lent.now.words.now c.args.first.now c.args.second.now c.requires a.new.lent.document _ a.ensures.step.step

pub returns : goal.returns
returns c =
    let d = c.args.lent.now.document in
    let mem = c.args.lent.now.words.now in
    let t = c.args.first.now in
    let u = c.args.second.now in
    let a = c.store_text-one in
    let b = c.store_text-two in
    record {
      step = record { step = two-step d mem t u c.requires a.new.lent.document _ a.ensures.step.step b.new.lent.document _ b.ensures.step.step; reference = b.ensures.step.reference ∙ a.ensures.step.reference };
      first_value = a.ensures.field_value;
      second_value = (second-field d mem t u c.requires a.new.lent.document _ a.ensures.step.step b.result b.ensures.field_value.0, b.ensures.field_value.1);
    }
