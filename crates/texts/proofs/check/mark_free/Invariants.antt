use Rattle.std.proofs.Common.{◌≡◌, take}
use Rattle.texts.specs.Words.{marked}
use Rattle.texts.proofs.check.mark_free.Given as goal

abbrev pub invariant-loop-slot : goal.invariant-loop-slot
invariant-loop-slot l = l.marks ≡ marked (take l.slot-index l.slot-items) l.initial.marks
