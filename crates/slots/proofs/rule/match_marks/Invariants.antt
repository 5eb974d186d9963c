use Rattle.std.proofs.Common.{◌≡◌, true}
use Rattle.slots.specs.FreeRule.{marks_match}
use Rattle.slots.proofs.rule.match_marks.Given as goal

-- the marks passed match
abbrev pub invariant-loop-s : goal.invariant-loop-s
invariant-loop-s l = marks_match l.s l.generations l.marks ≡ true
