-- `blocks::arena::ArenaWords::entries_for` meets its contract.
-- Assumes nothing.
use Rattle.blocks.proofs.Inserts.{entries_none, entries-moved}
use Rattle.blocks.proofs.arena.ArenaWords.entries_for.Goals as goal

pub returns-then-block-capacity : goal.returns-then-block-capacity
returns-then-block-capacity c =
    let a = c.args in
    entries_none a.self.words.now a.self.limit a.block.start a.block.len _ c.capacity.ensures c.if-block-capacity.true

pub returns : goal.returns
returns c =
    let a = c.args in
    entries-moved a.self.words.now a.self.limit a.block.start a.block.len _ _ c.capacity.ensures c.if-block-capacity.false c.max.ensures
