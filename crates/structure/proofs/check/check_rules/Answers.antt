-- `structure::check::check_rules` meets its contract.
-- Assumes nothing.
use mathlib.Core.Path.{◌∙◌}
use Rattle.structure.proofs.Together.{slots-broken, each-broken, parents-there, blocks-there, fields-held, links-decide}
use Rattle.structure.proofs.check.check_rules.Goals as goal

pub returns-then-not-check_slots : goal.returns-then-not-check_slots
returns-then-not-check_slots c =
    let v = c.args.view.now in
    slots-broken v.document v.words.now v.fits _ c.check_slots.ensures c.if-not-check_slots.true

pub returns-else-check_passes : goal.returns-else-check_passes
returns-else-check_passes c =
    let v = c.args.view.now in
    c.if-check_passes.false ∙ each-broken v.document v.words.now v.fits _ c.check_slots.ensures c.if-not-check_slots.false _ c.check_passes.ensures c.if-check_passes.false

pub check_links-requires-clause-rules : goal.check_links-requires-clause-rules
check_links-requires-clause-rules c =
    let v = c.args.view.now in
    let d = v.document in
    let mem = v.words.now in
    let e = c.check_slots.ensures in
    let f = c.check_passes.ensures in (
      parents-there d mem v.fits _ e c.if-not-check_slots.false _ f c.if-check_passes.true,
      blocks-there d mem v.fits _ e c.if-not-check_slots.false _ f c.if-check_passes.true,
      fields-held d mem v.fits _ e c.if-not-check_slots.false _ f c.if-check_passes.true,
    )

pub returns-then-check_passes : goal.returns-then-check_passes
returns-then-check_passes c =
    let v = c.args.view.now in
    links-decide v.document v.words.now v.fits _ c.check_slots.ensures c.if-not-check_slots.false _ c.check_passes.ensures c.if-check_passes.true _ c.check_links.ensures
