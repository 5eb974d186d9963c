-- `entries::node_lists::has_parent` meets its contract.
-- Assumes nothing.
use mathlib.Core.Path.{refl}
use Rattle.entries.specs.Entering.{parent_words}
use Rattle.entries.proofs.node_lists.has_parent.Goals as goal

pub returns : goal.returns
unfolding parent_words
returns c = refl
