-- `productions::checks::is_xml` meets its contract.
-- Assumes nothing.
use Rattle.productions.proofs.Spelling.{xml-compared}
use Rattle.productions.proofs.checks.is_xml.Goals as goal

pub returns : goal.returns
returns c = xml-compared _ _ c.eq_ignore_ascii_case.ensures.test
