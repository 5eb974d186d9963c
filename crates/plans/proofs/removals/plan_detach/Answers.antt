-- `plans::removals::plan_detach` meets its contract.
-- Assumes nothing.
use mathlib.Core.Path.{sym, ◌∙◌}
use Rattle.records.specs.Handles.{word_of}
use Rattle.memory.specs.View.{decoded}
use Rattle.verdicts.proofs.Refusing.{detach_number}
use Rattle.plans.proofs.removals.plan_detach.Goals as goal

pub returns : goal.returns
returns c = let s = c.args in c.a_child.ensures ∙ sym (detach_number (decoded s.view.now) (word_of s.node))
