use mathlib.Core.Path.{◌≡◌}
use mathlib.Core.Bool.{true}
use Rattle.words.specs.Lists.{all_below}
use Rattle.entries.specs.View.{decoded_nodes}
use Rattle.entries.specs.Entering.{marked_once}
use Rattle.entries.proofs.node_lists.all_entered.Given as goal

abbrev pub invariant-loop-i : goal.invariant-loop-i
invariant-loop-i l = all_below (marked_once (decoded_nodes l.nodes.view) l.marks) l.i ≡ true
