-- `lookup::root::root_children` meets its contract.
-- Assumes nothing.
use native.Mathlib.Omega.{arith}
use mathlib.Core.Path.{sym, ◌∙◌}
use Rattle.lookup.proofs.Kept.{kept}
use Rattle.lookup.proofs.Rooted.{root-block, no-root-block}
use Rattle.lookup.proofs.root.root_children.Goals as goal

pub returns-in-Some : goal.returns-in-Some
returns-in-Some c = root-block _ _ (kept c.args.doc.now) _ (sym c.resolve.ensures ∙ c.in-Some.is)

pub returns-in-None : goal.returns-in-None
returns-in-None c = (no-root-block _ _ (kept c.args.doc.now) (sym c.resolve.ensures ∙ c.in-None.is), omega arith)
