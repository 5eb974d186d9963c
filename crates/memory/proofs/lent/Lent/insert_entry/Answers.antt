-- `memory::lent::Lent::insert_entry` meets its contract.
-- Assumes nothing.
use mathlib.Core.Path.{ap, ◌∙◌}
use native.Mathlib.Omega.{arith}
use Rattle.layout.specs.Record.{with_used}
use Rattle.layout.specs.Layout.{which_of}
use Rattle.layout.specs.declared.Document.{Document}
use Rattle.memory.proofs.BlockSteps.{slot-in, block_held, landed, inserts, inserted-block}
use Rattle.memory.proofs.lent.Lent.insert_entry.Goals as goal

pub block_of-block-requires : goal.block_of-block-requires
block_of-block-requires c =
    let a = c.args in
    rw c.view.ensures.0 (slot-in a.self.now.document a.self.now.words.now (which_of a.arena) a.owner.0 c.requires.held)

pub insert_block-requires : goal.insert_block-requires
insert_block-requires c =
    let a = c.args in
    block_held a.self.now.document a.self.now.words.now (which_of a.arena) a.owner.0 c.requires.held c.block_of-block.result (rw (c.view.ensures.0, c.view.ensures.1) at c.block_of-block.ensures)

pub unwrap-inserted-requires : goal.unwrap-inserted-requires
unwrap-inserted-requires c =
    let a = c.args in
    inserts a.self.now.document a.self.now.words.now (which_of a.arena) a.owner.0 c.requires.held c.block_of-block.result (rw (c.view.ensures.0, c.view.ensures.1) at c.block_of-block.ensures) c.requires.room a.at a.id _ c.insert_block.ensures.value

pub overflow_cast-range : goal.overflow_cast-range
overflow_cast-range c =
    let a = c.args in
    omega (arith, (landed a.self.now.document a.self.now.words.now (which_of a.arena) a.owner.0 c.requires.held c.block_of-block.result (rw (c.view.ensures.0, c.view.ensures.1) at c.block_of-block.ensures) c.requires.room a.at a.id _ c.insert_block.ensures.value _ c.unwrap-inserted.ensures).start-narrow)

pub overflow_cast-range-2 : goal.overflow_cast-range-2
overflow_cast-range-2 c =
    let a = c.args in
    omega (arith, (landed a.self.now.document a.self.now.words.now (which_of a.arena) a.owner.0 c.requires.held c.block_of-block.result (rw (c.view.ensures.0, c.view.ensures.1) at c.block_of-block.ensures) c.requires.room a.at a.id _ c.insert_block.ensures.value _ c.unwrap-inserted.ensures).len-narrow)

pub put_range-requires : goal.put_range-requires
put_range-requires c =
    let a = c.args in
    rw c.insert_block.ensures.lent_after.record_is (slot-in a.self.now.document a.self.now.words.now (which_of a.arena) a.owner.0 c.requires.held)

pub put_record-requires : goal.put_record-requires
unfolding with_used
put_record-requires c = ap (λ (d : Document). d.limits) c.with_used.ensures

pub returns : goal.returns
returns c =
    let a = c.args in
    let w = which_of a.arena in
    let insert = c.insert_block.ensures.lent_after in
    let put = c.put_range.ensures in
    let set = c.put_record.ensures in
    let l = landed a.self.now.document a.self.now.words.now (which_of a.arena) a.owner.0 c.requires.held c.block_of-block.result (rw (c.view.ensures.0, c.view.ensures.1) at c.block_of-block.ensures) c.requires.room a.at a.id _ c.insert_block.ensures.value _ c.unwrap-inserted.ensures in
    record {
      record_is = set.record_is ∙ c.with_used.ensures ∙ ap (λ (d : Document). with_used d w c.unwrap-inserted.result.used) (put.record_is ∙ insert.record_is) ∙ ap (with_used a.self.now.document w) l.used-is;
      words_are = set.words_are ∙ inserted-block a.self.now.document a.self.now.words.now w a.owner.0 c.requires.held c.block_of-block.result (rw (c.view.ensures.0, c.view.ensures.1) at c.block_of-block.ensures) c.requires.room a.at a.id _ insert.words_are _ _ _ l _ (rw insert.record_is at put.words_are);
      reference = set.reference ∙ put.reference ∙ insert.reference;
    }
