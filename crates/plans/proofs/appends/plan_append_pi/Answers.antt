-- `plans::appends::plan_append_pi` meets its contract.
-- Assumes nothing.
use mathlib.Core.Path.{sym, ◌∙◌}
use Rattle.records.specs.Handles.{word_of}
use Rattle.memory.specs.View.{decoded}
use Rattle.verdicts.proofs.Verdicts.{refused_before, accepted_before}
use Rattle.verdicts.proofs.Refusing.{append_pi_number}
use Rattle.plans.proofs.appends.plan_append_pi.Goals as goal

pub returns-in_err-check_append_pi : goal.returns-in_err-check_append_pi
returns-in_err-check_append_pi c = let s = c.args in refused_before _ _ _ _ c.from_residual.ensures.1 c.in_err-check_append_pi.ensures ∙ sym (append_pi_number (decoded s.doc.now.view) (word_of s.parent) s.target.now s.content.now)

pub returns : goal.returns
returns c = let s = c.args in accepted_before _ _ _ c.in_ok-check_append_pi.ensures c.pi_fits.ensures ∙ sym (append_pi_number (decoded s.doc.now.view) (word_of s.parent) s.target.now s.content.now)
