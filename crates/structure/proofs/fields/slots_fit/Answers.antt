-- `structure::fields::slots_fit` meets its contract.
-- Assumes nothing.
use native.Mathlib.Omega.{arith}
use lib.ListN.{length}
use Rattle.layout.proofs.Sizes.{sizes}
use Rattle.structure.proofs.fields.slots_fit.Goals as goal

pub check_words-requires : goal.check_words-requires
check_words-requires c =
    let v = c.args.view.now in
    let z = sizes v.document (length v.words.now) v.fits in
    (omega (arith, c.made.ensures, c.slots.ensures), omega (arith, c.slots.ensures))
