use Rattle.slots.proofs.FreeRule.{Counting}
use Rattle.slots.proofs.rule.count_entries.Given as goal

-- the entries passed are slots made, and each mark is how often its slot stands among them
abbrev pub invariant-loop-entry : goal.invariant-loop-entry
invariant-loop-entry l = Counting l.made l.free l.initial.marks l.marks l.entry-index
