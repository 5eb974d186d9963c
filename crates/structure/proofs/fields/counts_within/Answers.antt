-- `structure::fields::counts_within` meets its contract.
-- Assumes nothing.
use mathlib.Core.Path.{refl}
use Rattle.memory.specs.Decode.{counts_within}
use Rattle.structure.proofs.fields.counts_within.Goals as goal

pub returns : goal.returns
unfolding counts_within
returns c = refl
