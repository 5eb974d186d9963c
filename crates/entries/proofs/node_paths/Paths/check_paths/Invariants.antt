use Rattle.entries.specs.View.{decoded_nodes}
use Rattle.entries.proofs.Paths.{Checked}
use Rattle.entries.proofs.node_paths.Paths.check_paths.Given as goal

abbrev pub invariant-loop-i : goal.invariant-loop-i
invariant-loop-i l = Checked (decoded_nodes l.self.nodes.view) l.initial.known l.known l.i
