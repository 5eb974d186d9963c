-- `memory::view::View::slot_bytes` meets its contract.
-- Assumes nothing.
use Rattle.memory.proofs.PoolAndTable.{text-of}
use Rattle.memory.proofs.view.View.slot_bytes.Goals as goal

pub returns : goal.returns
returns c =
    let a = c.args in
    let p = c.text_pool in
    text-of a.self.now.document a.self.now.words.now p.result.limits _ p.ensures.limits_told p.ensures.words_shown p.result.counts a.slot.0 _ p.ensures.counts_told c.text.ensures
