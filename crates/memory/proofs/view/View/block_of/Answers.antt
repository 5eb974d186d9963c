-- `memory::view::View::block_of` meets its contract.
-- Assumes nothing.
use mathlib.Core.Path.{sym, ap, ◌∙◌}
use Rattle.layout.specs.Layout.{which_of}
use Rattle.memory.specs.Decode.{range_loaded}
use Rattle.memory.proofs.view.View.block_of.Goals as goal

pub returns-in-Some : goal.returns-in-Some
returns-in-Some c =
    let a = c.args in
    c.range_of.ensures ∙ ap (range_loaded (which_of a.arena)) (sym c.in-Some.is ∙ c.load-loaded.ensures)

pub returns-in-None : goal.returns-in-None
returns-in-None c =
    let a = c.args in
    ap (range_loaded (which_of a.arena)) (sym c.in-None.is ∙ c.load-loaded.ensures)
