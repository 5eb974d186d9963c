-- `entries::node_paths::parent_slot` meets its contract.
-- Assumes nothing.
use Rattle.entries.proofs.Paths.{parent-none, parent-some}
use Rattle.entries.proofs.node_paths.parent_slot.Goals as goal

pub returns-then-word-eq0 : goal.returns-then-word-eq0
returns-then-word-eq0 c =
    let v = c.args.view.now in
    parent-none v.document v.words.now c.args.slot c.requires _ c.parent_word-word.ensures c.if-word-eq0.true

pub returns-else-word-eq0 : goal.returns-else-word-eq0
returns-else-word-eq0 c =
    let v = c.args.view.now in
    parent-some v.document v.words.now c.args.slot c.requires _ c.parent_word-word.ensures c.if-word-eq0.false
