-- `lines::cut`: the words written so far fit.
-- Assumes nothing.
use Rattle.std.proofs.Common.{◌≡◌, ◌≤◌, length}
use Rattle.lines.proofs.cut.Given as goal

abbrev pub invariant-loop-word : goal.invariant-loop-word
invariant-loop-word l = (l.n ≤ length l.words) × (length l.words ≡ length l.fn.words)
