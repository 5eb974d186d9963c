use mathlib.Core.Path.{◌≡◌}
use lib.ListN.{length}
use lib.Dec.{eqb}
use mathlib.Core.Bool.{true}
use Rattle.words.specs.Lists.{count_of}
use Rattle.model.specs.Doc.{live_slot}
use Rattle.model.specs.Rules.{Ends}
use Rattle.entries.specs.View.{decoded_nodes}
use Rattle.entries.specs.Paths.{Known}
use Rattle.entries.proofs.node_paths.Paths.mark_path.Given as goal

abbrev pub invariant-loop-known : goal.invariant-loop-known
invariant-loop-known l = (length l.known ≡ length l.initial.known) × Known (decoded_nodes l.self.nodes.view) l.known × Ends (decoded_nodes l.self.nodes.view) l.at × (live_slot (decoded_nodes l.self.nodes.view) l.at ≡ true)

abbrev pub decreases-loop-known : goal.decreases-loop-known
decreases-loop-known l = count_of (eqb 0) l.known
