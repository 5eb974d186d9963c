-- `lookup::finding::data_of` meets its contract.
-- Assumes nothing.
use Rattle.lookup.proofs.Found.{data-read, data-past}
use Rattle.lookup.proofs.finding.data_of.Goals as goal

pub returns-then-index-made : goal.returns-then-index-made
returns-then-index-made c = let v = c.args.view.now in data-read v.document v.words.now c.args.word _ c.made.ensures c.if-index-made.true _ c.loaded_data.result c.load.ensures c.loaded_data.ensures

pub returns : goal.returns
returns c = let v = c.args.view.now in data-past v.document v.words.now c.args.word _ c.made.ensures c.if-index-made.false
