-- `productions::checks::check_literal` meets its contract.
-- Assumes nothing.
use mathlib.Core.Path.{◌∙◌}
use Rattle.productions.proofs.Verdicts.{left, unread, read, no_text, check-literal}
use Rattle.productions.proofs.checks.check_literal.Goals as goal

pub returns-in_err-scan : goal.returns-in_err-scan
returns-in_err-scan c = left _ _ c.from_residual.ensures.1 ∙ no_text _ _ (unread _ _ _ c.scan.ensures _ c.in_err-scan.was)

pub returns : goal.returns
returns c = c.ensure.ensures ∙ check-literal _ _ (read _ _ _ c.scan.ensures _ c.in_ok-scan.was)
