-- `plans::setting::replacing_fits` meets its contract.
-- Assumes nothing.
use native.Mathlib.Omega.{arith}
use mathlib.Core.Path.{sym, ◌∙◌}
use Rattle.plans.proofs.Replaced.{replacing-found, replacing-stale}
use Rattle.plans.proofs.setting.replacing_fits.Goals as goal

pub returns-in-Some : goal.returns-in-Some
returns-in-Some c = replacing-found c.args.doc.now.view.document c.args.doc.now.view.words.now c.args.id (omega (arith, c.well_formed)) (omega (arith, c.well_formed)) c.args.text.now _ _ (sym c.resolve.ensures ∙ c.in-Some.is) c.text_field-field.result c.text_field-field.ensures _ c.replacement_fits.ensures c.full_unless.ensures

pub returns-in-None : goal.returns-in-None
returns-in-None c = replacing-stale c.args.doc.now.view.document c.args.doc.now.view.words.now c.args.id (omega (arith, c.well_formed)) (omega (arith, c.well_formed)) c.args.text.now _ (sym c.resolve.ensures ∙ c.in-None.is) c.requires
