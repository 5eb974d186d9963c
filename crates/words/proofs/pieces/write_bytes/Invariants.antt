use Rattle.std.proofs.Common.{◌≡◌, take}
use Rattle.words.specs.Parts.{put}
use Rattle.words.proofs.pieces.write_bytes.Given as goal

abbrev pub invariant-loop-k : goal.invariant-loop-k
invariant-loop-k l = l.words ≡ put l.at (take l.k l.bytes) l.initial.words
