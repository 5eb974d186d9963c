-- `memory::view::View::load` meets its contract.
-- Assumes nothing.
use Rattle.memory.proofs.Reading.{load-node, load-none}
use Rattle.memory.proofs.view.View.load.Goals as goal

pub returns-then-generation-lt4294967296 : goal.returns-then-generation-lt4294967296
returns-then-generation-lt4294967296 c = load-node _ _ _ _ c.generation.ensures c.if-generation-lt4294967296.true _ _ c.record_words.ensures c.node_of.ensures

pub returns-else-generation-lt4294967296 : goal.returns-else-generation-lt4294967296
returns-else-generation-lt4294967296 c = load-none _ _ _ _ c.generation.ensures c.if-generation-lt4294967296.false
