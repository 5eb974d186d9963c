-- `structure::fields::arenas_fit` meets its contract.
-- Assumes nothing.
use Rattle.structure.proofs.CountsAndFields.{arenas-fit}
use Rattle.structure.proofs.fields.arenas_fit.Goals as goal

pub returns : goal.returns
returns c =
    let v = c.args.view.now in
    arenas-fit v.document v.words.now _ _ _ c.capacities_fit.ensures c.capacities_fit-2.ensures c.capacities_fit-3.ensures
