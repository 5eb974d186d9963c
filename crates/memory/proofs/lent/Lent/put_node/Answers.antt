-- `memory::lent::Lent::put_node` meets its contract.
-- Assumes nothing.
use Rattle.memory.proofs.Writers.{node-stored}
use Rattle.memory.proofs.lent.Lent.put_node.Goals as goal

pub returns : goal.returns
returns c =
    let a = c.args in
    let put = c.put_words.ensures in
    record { record_is = put.record_is; words_are = node-stored a.self.now.document a.self.now.words.now _ a.node _ _ c.record_of-r.ensures put.words_are; reference = put.reference }
