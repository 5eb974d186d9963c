-- `plans::setting::plan_set_text` meets its contract.
-- Assumes nothing.
use mathlib.Core.Path.{sym, ◌∙◌}
use Rattle.records.specs.Handles.{word_of}
use Rattle.memory.specs.View.{decoded}
use Rattle.verdicts.proofs.Verdicts.{refused_before, accepted_before}
use Rattle.verdicts.proofs.Refusing.{set_text_number}
use Rattle.plans.proofs.setting.plan_set_text.Goals as goal

pub returns-in_err-check_set_text : goal.returns-in_err-check_set_text
returns-in_err-check_set_text c = let s = c.args in refused_before _ _ _ _ c.from_residual.ensures.1 c.in_err-check_set_text.ensures ∙ sym (set_text_number (decoded s.doc.now.view) (word_of s.id) s.text.now)

pub returns : goal.returns
returns c = let s = c.args in accepted_before _ _ _ c.in_ok-check_set_text.ensures c.replacing_fits.ensures ∙ sym (set_text_number (decoded s.doc.now.view) (word_of s.id) s.text.now)
