-- `memory::lent::Lent::drop_entry` meets its contract.
-- Assumes nothing.
use mathlib.Core.Path.{ap, ◌∙◌}
use native.Mathlib.Omega.{arith}
use Rattle.layout.specs.Layout.{which_of}
use Rattle.layout.specs.Record.{outdated}
use Rattle.memory.proofs.BlockSteps.{slot-in, block_held, dropped-narrow, dropped-block}
use Rattle.memory.proofs.lent.Lent.drop_entry.Goals as goal

pub block_of-block-requires : goal.block_of-block-requires
block_of-block-requires c =
    let a = c.args in
    rw c.view.ensures.0 (slot-in a.self.now.document a.self.now.words.now (which_of a.arena) a.owner.0 c.requires)

pub drop_block-len-requires : goal.drop_block-len-requires
drop_block-len-requires c =
    let a = c.args in
    block_held a.self.now.document a.self.now.words.now (which_of a.arena) a.owner.0 c.requires c.block_of-block.result (rw (c.view.ensures.0, c.view.ensures.1) at c.block_of-block.ensures)

pub overflow_cast-range : goal.overflow_cast-range
overflow_cast-range c =
    let a = c.args in
    omega (arith, dropped-narrow a.self.now.document a.self.now.words.now (which_of a.arena) a.owner.0 c.requires c.block_of-block.result (rw (c.view.ensures.0, c.view.ensures.1) at c.block_of-block.ensures) a.id _ c.drop_block-len.ensures.value)

pub put_range-requires : goal.put_range-requires
put_range-requires c =
    let a = c.args in
    rw c.drop_block-len.ensures.lent_after.record_is (slot-in a.self.now.document a.self.now.words.now (which_of a.arena) a.owner.0 c.requires)

pub returns : goal.returns
returns c =
    let a = c.args in
    let drop = c.drop_block-len.ensures in
    let put = c.put_range.ensures in
    let set = c.put_record.ensures in
    record {
      record_is = set.record_is ∙ c.outdated.ensures ∙ ap outdated (put.record_is ∙ drop.lent_after.record_is);
      words_are = set.words_are ∙ dropped-block a.self.now.document a.self.now.words.now (which_of a.arena) a.owner.0 c.requires c.block_of-block.result (rw (c.view.ensures.0, c.view.ensures.1) at c.block_of-block.ensures) a.id _ drop.lent_after.words_are _ drop.value _ (rw drop.lent_after.record_is at put.words_are);
      reference = set.reference ∙ put.reference ∙ drop.lent_after.reference;
    }
