use mathlib.Core.Path.{◌≡◌}
use lib.ListN.{length}
use Rattle.words.specs.Parts.{put}
use Rattle.memory.specs.View.{decoded}
use Rattle.reading.proofs.Live.{live_below}
use Rattle.reading.proofs.nodes.write_nodes.Given as goal

abbrev pub invariant-loop-i : goal.invariant-loop-i
invariant-loop-i l = (l.count ≡ length (live_below (decoded l.view) l.i)) × (l.out ≡ put 0 (live_below (decoded l.view) l.i) l.initial.out)
