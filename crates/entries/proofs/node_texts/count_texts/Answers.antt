-- `entries::node_texts::count_texts` meets its contract.
-- Assumes nothing.
use Rattle.entries.proofs.Fields.{first-outside, both-counted}
use Rattle.entries.proofs.node_texts.count_texts.Goals as goal

pub returns-then-count_text : goal.returns-then-count_text
returns-then-count_text c =
    let a = c.args in
    both-counted a.first a.second a.texts a.marks.now _ _ c.count_text.ensures c.if-count_text.true c.count_text.auto.marks _ _ c.count_text-then-count_text.ensures

pub returns-else-count_text : goal.returns-else-count_text
returns-else-count_text c =
    let a = c.args in
    rw c.if-count_text.false (first-outside a.first a.second a.texts a.marks.now _ _ c.count_text.ensures c.if-count_text.false)
