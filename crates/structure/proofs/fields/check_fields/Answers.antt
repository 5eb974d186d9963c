-- `structure::fields::check_fields` meets its contract.
-- Assumes nothing.
use mathlib.Core.Path.{◌∙◌}
use Rattle.structure.proofs.CountsAndFields.{fields-broken, fields-tested}
use Rattle.structure.proofs.fields.check_fields.Goals as goal

pub returns-else-counts_within-slots_fit : goal.returns-else-counts_within-slots_fit
returns-else-counts_within-slots_fit c =
    let v = c.args.view.now in
    let q = c.if-counts_within-slots_fit.false in
    q ∙ fields-broken v.document v.words.now _ _ c.counts_within.ensures c.slots_fit.ensures q

pub returns-then-counts_within-slots_fit : goal.returns-then-counts_within-slots_fit
returns-then-counts_within-slots_fit c =
    let v = c.args.view.now in
    fields-tested v.document v.words.now _ _ c.counts_within.ensures c.slots_fit.ensures c.if-counts_within-slots_fit.true _ _ c.arenas_fit.ensures c.root_stands.ensures
