use mathlib.Core.Path.{◌≡◌}
use lib.ListN.{length}
use Rattle.structure.proofs.Turns.{Sofar}
use Rattle.structure.proofs.each.Bounded.pass_slots.Given as goal

abbrev pub invariant-loop-s : goal.invariant-loop-s
invariant-loop-s l = (length l.scratch ≡ length l.initial.scratch) × Sofar l.self.nodes.view.document l.self.nodes.view.words.now l.scratch l.s
