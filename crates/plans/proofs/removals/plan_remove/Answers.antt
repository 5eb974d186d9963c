-- `plans::removals::plan_remove` meets its contract.
-- Assumes nothing.
use Rattle.std.proofs.Common.{arith}
use Rattle.records.specs.Handles.{word_of}
use Rattle.memory.specs.View.{decoded}
use Rattle.lookup.proofs.Viewed.{remove_seen}
use Rattle.verdicts.proofs.Verdicts.{passed_on}
use Rattle.verdicts.proofs.Refusing.{remove_number}
use Rattle.plans.proofs.removals.plan_remove.Goals as goal

pub returns-in_err-data : goal.returns-in_err-data
returns-in_err-data c = let s = c.args in grind (arith, passed_on, remove_number (decoded s.view.now) (word_of s.node))

pub returns : goal.returns
returns c = let s = c.args in grind (arith, remove_seen, remove_number (decoded s.view.now) (word_of s.node))
