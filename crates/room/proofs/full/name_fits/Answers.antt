-- `room::full::name_fits` meets its contract.
-- Assumes nothing.
use Rattle.names.specs.Expanded.{expanded}
use Rattle.lookup.proofs.Kept.{kept}
use Rattle.lookup.proofs.Named.{name-asked, name-told}
use Rattle.room.proofs.full.name_fits.Goals as goal

pub name_fits-requires : goal.name_fits-requires
name_fits-requires c =
    let t = c.name_table.ensures in
    name-asked _ _ (kept c.args.doc.now) _ _ _ t.limits t.counts t.words

pub returns : goal.returns
returns c =
    let t = c.name_table.ensures in
    name-told _ _ (kept c.args.doc.now) _ _ _ t.limits t.counts t.words (expanded c.args.name) _ c.name_fits.ensures
