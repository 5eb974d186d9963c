-- `releasing::release::push_slot` meets its contract.
-- Assumes nothing.
use Rattle.releasing.proofs.Released.{pushed-to}
use Rattle.releasing.proofs.release.push_slot.Goals as goal

pub returns : goal.returns
returns c =
    pushed-to c.args.limits c.args.counts c.args.words.now c.requires.0 c.args.slot.0 c.requires.1
