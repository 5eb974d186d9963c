-- `plans::listing::plan_remove_attribute` meets its contract.
-- Assumes nothing.
use mathlib.Core.Path.{sym, ◌∙◌}
use Rattle.records.specs.Handles.{word_of}
use Rattle.memory.specs.View.{decoded}
use Rattle.verdicts.proofs.Verdicts.{passed_on}
use Rattle.verdicts.proofs.Refusing.{remove_attribute_number}
use Rattle.plans.proofs.listing.plan_remove_attribute.Goals as goal

pub returns-in_err-check_remove_attribute-clause-verdict_value : goal.returns-in_err-check_remove_attribute-clause-verdict_value
returns-in_err-check_remove_attribute-clause-verdict_value c = let s = c.args in passed_on _ _ c.from_residual.ensures.1 ∙ c.in_err-check_remove_attribute.ensures ∙ sym (remove_attribute_number (decoded s.doc.now.view) (word_of s.element) s.name.namespace.now s.name.local.now)

pub returns-clause-verdict_value : goal.returns-clause-verdict_value
returns-clause-verdict_value c = let s = c.args in c.in_ok-check_remove_attribute.ensures ∙ sym (remove_attribute_number (decoded s.doc.now.view) (word_of s.element) s.name.namespace.now s.name.local.now)
