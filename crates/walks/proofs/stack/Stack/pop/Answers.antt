-- `walks::stack::Stack::pop` meets its contract.
-- Assumes nothing.
use native.Mathlib.Omega.{arith}
use Rattle.walks.proofs.Stacks.{stack-popped}
use Rattle.walks.proofs.stack.Stack.pop.Goals as goal

pub returns-clause-stack_after : goal.returns-clause-stack_after
returns-clause-stack_after c =
    let s = c.self.inside in
    let lower = c.in_ok-self-inside.ensures in
    rw (← c.self.view_is, lower.1) (stack-popped s.words.now s.height (omega arith) c.self.invariant)
