-- `lookup::paths::parent_of` meets its contract.
-- Assumes nothing.
use Rattle.lookup.proofs.Climbing.{parent-read, parent-past}
use Rattle.lookup.proofs.paths.parent_of.Goals as goal

pub returns-then-index-made : goal.returns-then-index-made
returns-then-index-made c = let v = c.args.view.now in parent-read v.document v.words.now c.args.word _ c.made.ensures c.if-index-made.true _ c.loaded_parent.result c.load.ensures c.loaded_parent.ensures

pub returns : goal.returns
returns c = let v = c.args.view.now in parent-past v.document v.words.now c.args.word _ c.made.ensures c.if-index-made.false
