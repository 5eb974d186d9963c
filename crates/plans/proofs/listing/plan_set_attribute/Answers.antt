-- `plans::listing::plan_set_attribute` meets its contract.
-- Assumes nothing.
use Rattle.std.proofs.Common.{arith}
use Rattle.records.specs.Handles.{word_of}
use Rattle.memory.specs.View.{decoded}
use Rattle.verdicts.proofs.Verdicts.{refused_first, accepted_first, passed_on}
use Rattle.verdicts.proofs.Refusing.{set_attribute_number}
use Rattle.plans.proofs.Planned.{found_some}
use Rattle.plans.proofs.listing.plan_set_attribute.Goals as goal

pub returns-in_err-three_not_utf8-clause-verdict_value : goal.returns-in_err-three_not_utf8-clause-verdict_value
returns-in_err-three_not_utf8-clause-verdict_value c = let s = c.args in grind (arith, refused_first, accepted_first, passed_on, found_some, set_attribute_number (decoded s.doc.now.view) (word_of s.element) s.name.namespace.now s.name.local.now s.value.now)

pub returns-in_err-an_element-clause-verdict_value : goal.returns-in_err-an_element-clause-verdict_value
returns-in_err-an_element-clause-verdict_value c = let s = c.args in grind (arith, refused_first, accepted_first, passed_on, found_some, set_attribute_number (decoded s.doc.now.view) (word_of s.element) s.name.namespace.now s.name.local.now s.value.now)

pub returns-in_err-check_attribute-clause-verdict_value : goal.returns-in_err-check_attribute-clause-verdict_value
returns-in_err-check_attribute-clause-verdict_value c = let s = c.args in grind (arith, refused_first, accepted_first, passed_on, found_some, set_attribute_number (decoded s.doc.now.view) (word_of s.element) s.name.namespace.now s.name.local.now s.value.now)

pub returns-in_err-attribute_fits-clause-verdict_value : goal.returns-in_err-attribute_fits-clause-verdict_value
returns-in_err-attribute_fits-clause-verdict_value c = let s = c.args in grind (arith, refused_first, accepted_first, passed_on, found_some, set_attribute_number (decoded s.doc.now.view) (word_of s.element) s.name.namespace.now s.name.local.now s.value.now)

pub returns-clause-verdict_value : goal.returns-clause-verdict_value
returns-clause-verdict_value c = let s = c.args in grind (arith, refused_first, accepted_first, passed_on, found_some, set_attribute_number (decoded s.doc.now.view) (word_of s.element) s.name.namespace.now s.name.local.now s.value.now)
