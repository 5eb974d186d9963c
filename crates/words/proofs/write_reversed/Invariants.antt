use Rattle.std.proofs.Common.{◌≡◌, drop, reverse}
use Rattle.words.specs.Parts.{put}
use Rattle.words.proofs.write_reversed.Given as goal

abbrev pub invariant-loop-left : goal.invariant-loop-left
invariant-loop-left l = l.words ≡ put l.at (reverse (drop l.left l.from)) l.initial.words
