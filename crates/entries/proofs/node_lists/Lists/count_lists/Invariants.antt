use Rattle.memory.specs.Decode.{slots_made}
use Rattle.entries.specs.View.{decoded_nodes}
use Rattle.entries.specs.Entering.{lists_enter, slots_named}
use Rattle.entries.proofs.Marks.{Passing}
use Rattle.entries.proofs.node_lists.Lists.count_lists.Given as goal

abbrev pub invariant-loop-i : goal.invariant-loop-i
invariant-loop-i l = Passing (slots_made l.self.nodes.view.document) (slots_made l.self.nodes.view.document) (lists_enter (decoded_nodes l.self.nodes.view)) (slots_named (decoded_nodes l.self.nodes.view)) l.initial.marks l.marks l.i
