-- `words::fill` meets its contract.
-- Assumes nothing.
use Rattle.std.proofs.Common.{rules}
use Rattle.words.proofs.Parts.{filled}
use Rattle.words.proofs.fill.Goals as goal

pub returns : goal.returns
returns c = filled _ _ _ _ _ c.requires (search rules)
