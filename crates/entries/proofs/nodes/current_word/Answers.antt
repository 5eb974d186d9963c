-- `entries::nodes::current_word` meets its contract.
-- Assumes nothing.
use mathlib.Core.Path.{refl, ◌∙◌}
use borrow.Author.Tests.{le-ltb}
use Rattle.entries.proofs.EntryWords.{past-current, made-current}
use Rattle.entries.proofs.nodes.current_word.Goals as goal

pub returns-then-s-made : goal.returns-then-s-made
returns-then-s-made c =
    let a = c.args in
    made-current a.made a.mem.now a.handle c.if-s-made.true _ refl

pub returns-else-s-made : goal.returns-else-s-made
returns-else-s-made c = le-ltb _ _ c.if-s-made.false ∙ past-current _ _ _ c.if-s-made.false
