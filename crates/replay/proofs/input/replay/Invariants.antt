-- `replay::input::replay`: what is kept of a line is in the input.
-- Assumes nothing.
use Rattle.std.proofs.Common.{◌≤◌, length, unwrap_or}
use Rattle.replay.proofs.input.replay.Given as goal

abbrev pub invariant-loop : goal.invariant-loop
invariant-loop l = unwrap_or l.start 0 ≤ length l.input
