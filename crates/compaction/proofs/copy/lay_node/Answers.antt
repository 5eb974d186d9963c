-- `compaction::copy::lay_node` meets its contract.
-- Assumes nothing.
use Rattle.compaction.proofs.Nodes.{children-layable, other-laid, attributes-layable, namespaces-layable, element-laid}
use Rattle.compaction.proofs.copy.lay_node.Goals as goal

pub lay_list-children-requires : goal.lay_list-children-requires
lay_list-children-requires c =
    let l = c.args.lent.now in
    children-layable l.document l.words.now c.args.word c.args.used c.requires _ c.slot_of-slot.ensures

pub lay_list-attributes-requires : goal.lay_list-attributes-requires
lay_list-attributes-requires c =
    let l = c.args.lent.now in
    let one = c.lay_list-children.ensures in
    let t = rw (c.view.ensures.0, c.view.ensures.1, one.lent_after.record_is) at c.is_element.ensures in
    rw one.lent_after.record_is (attributes-layable l.document l.words.now c.args.word c.args.used c.requires _ c.slot_of-slot.ensures _ _ one.copies _ t c.if-is_element.true)

pub lay_list-requires : goal.lay_list-requires
lay_list-requires c =
    let l = c.args.lent.now in
    let one = c.lay_list-children.ensures in
    let two = c.lay_list-attributes.ensures in
    let t = rw (c.view.ensures.0, c.view.ensures.1, one.lent_after.record_is) at c.is_element.ensures in
    rw (two.lent_after.record_is, one.lent_after.record_is)
    (namespaces-layable l.document l.words.now c.args.word c.args.used c.requires _ c.slot_of-slot.ensures _ _ one.copies _ t c.if-is_element.true _ _ (rw one.lent_after.record_is at two.copies))

pub returns-then-is_element-clause-copies : goal.returns-then-is_element-clause-copies
returns-then-is_element-clause-copies c =
    let l = c.args.lent.now in
    let one = c.lay_list-children.ensures in
    let two = c.lay_list-attributes.ensures in
    let t = rw (c.view.ensures.0, c.view.ensures.1, one.lent_after.record_is) at c.is_element.ensures in
    element-laid l.document l.words.now c.args.word c.args.used c.requires _ c.slot_of-slot.ensures _ _ one.copies _ t c.if-is_element.true _ _ (rw one.lent_after.record_is at two.copies) _ _
    (rw (two.lent_after.record_is, one.lent_after.record_is) at c.lay_list.ensures.copies)

pub returns-else-is_element-clause-copies : goal.returns-else-is_element-clause-copies
returns-else-is_element-clause-copies c =
    let l = c.args.lent.now in
    let one = c.lay_list-children.ensures in
    let t = rw (c.view.ensures.0, c.view.ensures.1, one.lent_after.record_is) at c.is_element.ensures in
    other-laid l.document l.words.now c.args.word c.args.used c.requires _ c.slot_of-slot.ensures _ _ one.copies _ t c.if-is_element.false
