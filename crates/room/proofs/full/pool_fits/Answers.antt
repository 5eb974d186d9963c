-- `room::full::pool_fits` meets its contract.
-- Assumes nothing.
use mathlib.Core.Path.{◌∙◌}
use Rattle.lookup.proofs.Kept.{kept}
use Rattle.lookup.proofs.Counts.{counts-within}
use Rattle.room.proofs.Texts.{text-fits}
use Rattle.room.proofs.full.pool_fits.Goals as goal

pub texts_fit-requires : goal.texts_fit-requires
texts_fit-requires c =
    let w = counts-within _ _ (kept c.args.doc.now) in
    (w.texts, w.textbytes, c.requires)

pub returns : goal.returns
returns c = c.texts_fit.ensures ∙ text-fits _ _ (kept c.args.doc.now) c.args.slots c.args.off c.args.on
