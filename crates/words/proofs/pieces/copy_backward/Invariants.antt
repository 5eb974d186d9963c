use Rattle.std.proofs.Common.{◌≡◌, ◌+◌, ◌-◌}
use Rattle.words.specs.Parts.{part, put}
use Rattle.words.proofs.pieces.copy_backward.Given as goal

abbrev pub invariant-loop-k : goal.invariant-loop-k
invariant-loop-k l = l.words ≡ put (l.to + l.k) (part (l.from + l.k) (l.n - l.k) l.initial.words) l.initial.words
