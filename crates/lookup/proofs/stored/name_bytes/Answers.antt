-- `lookup::stored::name_bytes` meets its contract.
-- Assumes nothing.
use Rattle.lookup.proofs.Kept.{kept}
use Rattle.lookup.proofs.Shown.{name-told}
use Rattle.lookup.proofs.stored.name_bytes.Goals as goal

pub returns : goal.returns
returns c = name-told _ _ (kept c.args.doc.now) c.args.number.0 _ c.args.part c.name_bytes.ensures
