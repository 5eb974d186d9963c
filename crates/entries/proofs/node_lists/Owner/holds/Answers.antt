-- `entries::node_lists::Owner::holds` meets its contract.
-- Assumes nothing.
use mathlib.Core.Path.{refl, sym, ◌∙◌}
use native.Mathlib.Omega.{arith}
use Rattle.entries.proofs.EntryWords.{current-made, entry-current, entry-stale}
use Rattle.entries.proofs.node_lists.Owner.holds.Goals as goal

pub has_parent-requires : goal.has_parent-requires
has_parent-requires c = omega (arith, c.args.self.inside, current-made c.args.self.made c.args.self.mem.now c.args.entry (sym c.current_word.ensures ∙ c.if-current_word.true))

pub bounds-self-at : goal.bounds-self-at
bounds-self-at c = omega (arith, c.args.self.inside, current-made c.args.self.made c.args.self.mem.now c.args.entry (sym c.current_word.ensures ∙ c.if-current_word.true))

pub returns-then-current_word : goal.returns-then-current_word
returns-then-current_word c =
    let a = c.args in
    entry-current a.self.nodes a.self.made a.self.mem.now a.list a.self.handle a.entry _ c.current_word.ensures c.if-current_word.true _ _ c.has_parent.ensures c.list_number.ensures _ refl

pub returns-else-current_word : goal.returns-else-current_word
returns-else-current_word c =
    let a = c.args in
    entry-stale a.self.nodes a.self.made a.self.mem.now a.list a.self.handle a.entry _ c.current_word.ensures c.if-current_word.false
