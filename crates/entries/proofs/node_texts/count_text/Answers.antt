-- `entries::node_texts::count_text` meets its contract.
-- Assumes nothing.
use Rattle.entries.proofs.Fields.{text-none, text-outside, text-counted}
use Rattle.entries.proofs.node_texts.count_text.Goals as goal

pub returns-then-s-texts : goal.returns-then-s-texts
returns-then-s-texts c =
    let a = c.args in
    text-outside a.text a.texts a.marks.now _ c.in-Some.is c.if-s-texts.true

pub returns-in-None : goal.returns-in-None
returns-in-None c =
    let a = c.args in
    text-none a.text a.texts a.marks.now c.in-None.is

pub returns-else-s-texts : goal.returns-else-s-texts
returns-else-s-texts c =
    let a = c.args in
    text-counted a.text a.texts a.marks.now _ c.in-Some.is c.if-s-texts.false c.requires _ c.count.ensures
