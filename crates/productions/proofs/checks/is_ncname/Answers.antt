-- `productions::checks::is_ncname` meets its contract.
-- Assumes nothing.
use Rattle.productions.proofs.Verdicts.{name-tested}
use Rattle.productions.proofs.checks.is_ncname.Goals as goal

pub returns : goal.returns
returns c = name-tested _ _ _ c.scan.ensures c.unwrap_or.ensures
