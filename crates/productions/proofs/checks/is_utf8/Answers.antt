-- `productions::checks::is_utf8` meets its contract.
-- Assumes nothing.
use Rattle.productions.proofs.Verdicts.{utf8-checked}
use Rattle.productions.proofs.checks.is_utf8.Goals as goal

pub returns : goal.returns
returns c = utf8-checked _ _ _ c.scan.ensures c.is_ok.ensures.value
