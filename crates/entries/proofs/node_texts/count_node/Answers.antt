-- `entries::node_texts::count_node` meets its contract.
-- Assumes nothing.
use Rattle.entries.specs.View.{decoded_nodes}
use Rattle.entries.proofs.Fields.{node-refused, node-counted}
use Rattle.entries.proofs.node_texts.count_node.Goals as goal

pub returns-then-not-names_inside : goal.returns-then-not-names_inside
returns-then-not-names_inside c =
    let a = c.args in
    let v = c.args.view.now in
    node-refused (decoded_nodes v) a.s v.document.counts.texts v.document.counts.names a.marks.now c.requires.0 _ c.names_inside.ensures c.if-not-names_inside.true

pub returns : goal.returns
returns c =
    let a = c.args in
    let v = c.args.view.now in
    node-counted (decoded_nodes v) a.s v.document.counts.texts v.document.counts.names a.marks.now c.requires.0 _ c.names_inside.ensures c.if-not-names_inside.false c.first_text-first.result c.second_text-second.result c.first_text-first.ensures c.second_text-second.ensures _ _ c.count_texts.ensures
