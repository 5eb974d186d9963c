use Rattle.std.proofs.Common.{◌≡◌, true}
use Rattle.slots.specs.WordsRule.{words_rule}
use Rattle.slots.proofs.region.Slots.check_words.Given as goal

-- the words of the slots passed are within their fields
abbrev pub invariant-loop-s : goal.invariant-loop-s
invariant-loop-s l = words_rule l.self.n l.self.words.now l.s ≡ true
