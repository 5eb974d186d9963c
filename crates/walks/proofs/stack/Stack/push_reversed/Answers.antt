-- `walks::stack::Stack::push_reversed` meets its contract.
-- Assumes nothing.
use mathlib.Core.Path.{sym, ap, ◌∙◌}
use mathlib.Core.List.{List, reverse, reverse-reverse}
use Prim.Native.Nat.{ℕ, ◌+◌}
use lib.ListN.{length, length-reverse}
use Rattle.words.proofs.Parts.{returned}
use Rattle.walks.specs.Stack.{stacked, pushed}
use Rattle.walks.proofs.Stacks.{stack-pushed}
use Rattle.walks.proofs.stack.Stack.push_reversed.Goals as goal

pub returns : goal.returns
returns c =
    let s = c.self.inside in
    let l = c.args.entries.now in
    rw (← c.self.view_is, c.write_reversed.ensures)
    (ap (λ (words : List ℕ). stacked (s.height + length l) words) (sym (returned s.words.now (reverse l) s.height (length l) (length-reverse l)))
    ∙ stack-pushed s.words.now (reverse l) s.height (length l) (length-reverse l) c.self.invariant
    ∙ ap (λ (x : List ℕ). pushed x (stacked s.height s.words.now)) (reverse-reverse l))
