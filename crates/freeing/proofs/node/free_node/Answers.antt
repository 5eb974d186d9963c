-- `freeing::node::free_node` meets its contract.
-- Assumes nothing.
use mathlib.Core.Path.{◌∙◌}
use Rattle.freeing.proofs.Freed.{slot-made, pushed-freeable, node-freed}
use Rattle.freeing.proofs.node.free_node.Goals as goal

pub push_texts-requires : goal.push_texts-requires
push_texts-requires c =
    let a = c.args in
    (slot-made a.lent.now.document a.lent.now.words.now a.lent.now.fits a.slot.0 c.requires.slot, c.requires.texts)

pub free_slot-requires : goal.free_slot-requires
free_slot-requires c =
    let a = c.args in
    let pushed = c.push_texts in
    pushed-freeable a.lent.now.document a.lent.now.words.now a.slot.0 c.requires pushed.new.lent.document _ pushed.ensures.step

pub returns : goal.returns
returns c =
    let a = c.args in
    let pushed = c.push_texts in
    let freed = c.free_slot in
    record { step = node-freed a.lent.now.document a.lent.now.words.now a.slot.0 c.requires pushed.new.lent.document _ pushed.ensures.step freed.new.lent.document _ freed.ensures.step; reference = freed.ensures.reference ∙ pushed.ensures.reference }
