-- `structure::check::check_links` meets its contract.
-- Assumes nothing.
use Rattle.structure.proofs.CountsAndFields.{words-there}
use Rattle.structure.proofs.check.check_links.Goals as goal

pub invariant_of-nodes : goal.invariant_of-nodes
invariant_of-nodes c =
    let v = c.args.view.now in
    record { words = words-there v.document v.words.now c.requires.rules.2 }
