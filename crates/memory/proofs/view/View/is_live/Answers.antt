-- `memory::view::View::is_live` meets its contract.
-- Assumes nothing.
use Rattle.memory.proofs.Living.{live-wide, live-odd, live-node}
use Rattle.memory.proofs.view.View.is_live.Goals as goal

pub returns-then-word-ge4294967296 : goal.returns-then-word-ge4294967296
returns-then-word-ge4294967296 c =
    live-wide c.args.self.now.document c.args.self.now.words.now c.args.slot.0 c.requires _ c.generation-word.ensures c.if-word-ge4294967296.true

pub returns-then-word-ne0 : goal.returns-then-word-ne0
returns-then-word-ne0 c =
    live-odd c.args.self.now.document c.args.self.now.words.now c.args.slot.0 c.requires _ c.generation-word.ensures c.if-word-ne0.true

pub returns : goal.returns
returns c =
    live-node c.args.self.now.document c.args.self.now.words.now c.args.slot.0 c.requires _ c.generation-word.ensures c.if-word-ge4294967296.false c.if-word-ne0.false _ c.record_words.ensures _ c.is_node.ensures
