-- `structure::free::check_free_list` meets its contract.
-- Assumes nothing.
use mathlib.Core.Path.{◌∙◌}
use Rattle.structure.proofs.FreeStacks.{free-list}
use Rattle.structure.proofs.free.check_free_list.Goals as goal

pub returns : goal.returns
returns c =
    let v = c.args.view.now in
    (rw (c.slots.ensures.0, c.slots.ensures.1, c.made.ensures, c.free.ensures) at c.check_free.ensures)
    ∙ free-list v.document v.words.now v.fits
