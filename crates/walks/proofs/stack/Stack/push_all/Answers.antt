-- `walks::stack::Stack::push_all` meets its contract.
-- Assumes nothing.
use mathlib.Core.Path.{refl, sym, ap, ◌∙◌}
use mathlib.Core.List.{List}
use Prim.Native.Nat.{ℕ, ◌+◌}
use lib.ListN.{length}
use Rattle.words.proofs.Parts.{returned}
use Rattle.walks.specs.Stack.{stacked}
use Rattle.walks.proofs.Stacks.{stack-pushed}
use Rattle.walks.proofs.stack.Stack.push_all.Goals as goal

pub returns : goal.returns
returns c =
    let s = c.self.inside in
    let l = c.args.entries.now in
    rw (← c.self.view_is, c.push_entries-self-inside.ensures.value, c.push_entries-self-inside.ensures.stack_after)
    (ap (λ (words : List ℕ). stacked (s.height + length l) words) (sym (returned s.words.now l s.height (length l) refl))
    ∙ stack-pushed s.words.now l s.height (length l) refl c.self.invariant)
