use Rattle.releasing.proofs.Gaps.{Closing}
use Rattle.releasing.proofs.release.close_gaps.Given as goal

abbrev pub invariant-loop-slot : goal.invariant-loop-slot
invariant-loop-slot l = Closing l.initial.words l.marks l.slot-end l.base l.words l.slot l.from l.to
