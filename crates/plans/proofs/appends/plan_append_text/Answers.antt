-- `plans::appends::plan_append_text` meets its contract.
-- Assumes nothing.
use mathlib.Core.Path.{sym, ◌∙◌}
use Rattle.records.specs.Handles.{word_of}
use Rattle.memory.specs.View.{decoded}
use Rattle.verdicts.proofs.Verdicts.{refused_before, accepted_before}
use Rattle.verdicts.proofs.Refusing.{append_text_number}
use Rattle.plans.proofs.appends.plan_append_text.Goals as goal

pub returns-in_err-check_append_text : goal.returns-in_err-check_append_text
returns-in_err-check_append_text c = let s = c.args in refused_before _ _ _ _ c.from_residual.ensures.1 c.in_err-check_append_text.ensures ∙ sym (append_text_number (decoded s.doc.now.view) (word_of s.parent) s.text.now)

pub returns : goal.returns
returns c = let s = c.args in accepted_before _ _ _ c.in_ok-check_append_text.ensures c.text_node_fits.ensures ∙ sym (append_text_number (decoded s.doc.now.view) (word_of s.parent) s.text.now)
