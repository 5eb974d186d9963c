-- `structure::root::shows_element` meets its contract.
-- Assumes nothing.
use Rattle.entries.specs.View.{decoded_nodes}
use Rattle.structure.proofs.RootElement.{element-shown}
use Rattle.structure.proofs.root.shows_element.Goals as goal

pub returns : goal.returns
returns c =
    let a = c.args in
    let v = c.args.view.now in
    element-shown (decoded_nodes v) a.handle _ c.kind_of.ensures
