-- `productions::checks::is_reserved_prefix` meets its contract.
-- Assumes nothing.
use mathlib.Core.Path.{sym, ◌∙◌}
use Rattle.chars.specs.Checks.{quoted, is_xmlns}
use Rattle.productions.proofs.Spelling.{equal}
use Rattle.productions.proofs.checks.is_reserved_prefix.Goals as goal

pub returns-else-eq : goal.returns-else-eq
unfolding is_xmlns
returns-else-eq c =
    let xml = sym (equal _ (quoted "xml") _ c.as_slice.ensures _ c.eq.ensures) ∙ c.if-eq.false in
    rw xml (equal _ (quoted "xmlns") _ c.as_slice-else-eq.ensures _ c.eq-else-eq.ensures)
