use Rattle.std.proofs.Common.{◌≡◌, ◌++◌, map, take, drop}
use Rattle.words.specs.Ends.{moved_end}
use Rattle.texts.proofs.storing.move_ends.Given as goal

abbrev pub invariant-loop-end : goal.invariant-loop-end
invariant-loop-end l = l.end-items ≡ map (moved_end l.old l.len) (take l.end-index l.initial.end-items) ++ drop l.end-index l.initial.end-items
