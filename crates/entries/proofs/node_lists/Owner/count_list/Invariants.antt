use Rattle.entries.specs.Entering.{words_enter}
use Rattle.entries.proofs.Counting.{Blocking}
use Rattle.entries.proofs.node_lists.Owner.count_list.Given as goal

abbrev pub invariant-loop-entry : goal.invariant-loop-entry
invariant-loop-entry l = Blocking l.self.made (words_enter l.self.nodes l.self.made l.self.mem.now l.list l.self.handle) l.entry-items l.initial.marks l.marks l.entry-index
