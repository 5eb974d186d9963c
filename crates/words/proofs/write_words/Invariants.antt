use Rattle.std.proofs.Common.{◌≡◌, take}
use Rattle.words.specs.Parts.{put}
use Rattle.words.proofs.write_words.Given as goal

abbrev pub invariant-loop-k : goal.invariant-loop-k
invariant-loop-k l = l.words ≡ put l.at (take l.k l.from) l.initial.words
