use Rattle.entries.specs.View.{decoded_nodes}
use Rattle.entries.proofs.Paths.{Following}
use Rattle.entries.proofs.node_paths.Paths.follow.Given as goal

abbrev pub invariant-loop : goal.invariant-loop
invariant-loop l = Following (decoded_nodes l.self.nodes.view) l.slot l.at l.counter
