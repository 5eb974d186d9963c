-- `productions::checks::is_white_space` meets its contract.
-- Assumes nothing.
use Rattle.productions.proofs.Verdicts.{space-tested}
use Rattle.productions.proofs.checks.is_white_space.Goals as goal

pub returns : goal.returns
returns g c = space-tested _ _ _ c.scan.ensures c.unwrap_or.ensures
