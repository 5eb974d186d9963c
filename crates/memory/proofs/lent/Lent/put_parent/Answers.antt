-- `memory::lent::Lent::put_parent` meets its contract.
-- Assumes nothing.
use Rattle.memory.proofs.Writers.{parent-stored}
use Rattle.memory.proofs.lent.Lent.put_parent.Goals as goal

pub returns : goal.returns
returns c =
    let a = c.args in
    let put = c.put_words.ensures in
    record {
      record_is = put.record_is;
      words_are = parent-stored a.self.now.document a.self.now.words.now _ a.parent _ _ _ (rw (c.view.ensures.0, c.view.ensures.1) at c.record_words-words.ensures) c.with_parent.ensures put.words_are;
      reference = put.reference;
    }
