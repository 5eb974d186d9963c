-- `replay::main` is safe: the length of the input is told by a law, not counted.
-- Assumes nothing.
use Rattle.std.proofs.Common.{ℕ, sym}
use lib.ListN.{length-replicate}
use Rattle.replay.proofs.main.Goals as goal

pub slice_bounds-replay-end : goal.slice_bounds-replay-end
slice_bounds-replay-end c = sym (length-replicate {A = ℕ} 524288 0)
