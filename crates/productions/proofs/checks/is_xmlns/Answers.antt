-- `productions::checks::is_xmlns` meets its contract.
-- Assumes nothing.
use mathlib.Core.Path.{sym, ◌∙◌}
use Rattle.chars.specs.Checks.{quoted, is_xmlns}
use Rattle.chars.proofs.Ascii.{xmlns-bytes}
use Rattle.productions.proofs.Spelling.{equal}
use Rattle.productions.proofs.checks.is_xmlns.Goals as goal

pub returns : goal.returns
unfolding is_xmlns
returns c = equal _ (quoted "xmlns") _ c.as_slice.ensures _ c.eq.ensures ∙ sym (xmlns-bytes _)
