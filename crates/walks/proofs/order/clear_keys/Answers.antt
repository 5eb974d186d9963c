-- `walks::order::clear_keys` meets its contract.
-- Assumes nothing.
use mathlib.Core.Path.{◌∙◌}
use Rattle.walks.proofs.Cleared.{keys-cleared}
use Rattle.walks.proofs.order.clear_keys.Goals as goal

pub returns : goal.returns
returns c =
    let l = c.args.lent.now in
    let clear = c.clear_order.ensures in
    record { record_is = clear.record_is; words_are = clear.words_are ∙ keys-cleared l.document l.words.now l.fits; reference = clear.reference }
