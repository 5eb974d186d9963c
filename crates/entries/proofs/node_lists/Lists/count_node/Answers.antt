-- `entries::node_lists::Lists::count_node` meets its contract.
-- Assumes nothing.
use native.Mathlib.Omega.{arith}
use Rattle.model.specs.Kinds.{children, attributes, namespaces}
use Rattle.memory.specs.Decode.{slots_made}
use Rattle.entries.specs.View.{decoded_nodes}
use Rattle.entries.proofs.Counting.{list_inside, list-passed, first-refused, second-refused, third}
use Rattle.entries.proofs.node_lists.Lists.count_node.Goals as goal

pub count_list-requires : goal.count_list-requires
count_list-requires c =
    let a = c.args in
    let v = c.args.self.now.nodes.view in
    record { marks_in_bounds = omega (arith, c.made.ensures, c.requires.marks_in_bounds); at_in_bounds = list_inside v.document v.words.now a.s v.fits c.requires.s_value.0 children c.args.self.now.blocks _ c.arena_at.ensures }

pub returns-then-not-count_list : goal.returns-then-not-count_list
returns-then-not-count_list c =
    let a = c.args in
    let v = c.args.self.now.nodes.view in
    first-refused (decoded_nodes v) (slots_made v.document) a.s _ _ _ (list-passed v.document v.words.now a.s v.fits c.requires.s_value.0 children c.args.self.now.blocks _ c.arena_at.ensures c.args.self.now.nodes.words _ _ c.made.ensures c.requires.s_value.1 _ _ _ c.count_list.ensures) c.if-not-count_list.true

pub count_list-requires-2 : goal.count_list-requires-2
count_list-requires-2 c =
    let a = c.args in
    let v = c.args.self.now.nodes.view in
    record { marks_in_bounds = omega (arith, c.made.ensures, c.requires.marks_in_bounds, c.count_list.auto.marks); at_in_bounds = list_inside v.document v.words.now a.s v.fits c.requires.s_value.0 attributes c.args.self.now.blocks _ c.arena_at-2.ensures }

pub returns-then-not-count_list-2 : goal.returns-then-not-count_list-2
returns-then-not-count_list-2 c =
    let a = c.args in
    let v = c.args.self.now.nodes.view in
    second-refused (decoded_nodes v) (slots_made v.document) a.s _ _ _ (list-passed v.document v.words.now a.s v.fits c.requires.s_value.0 children c.args.self.now.blocks _ c.arena_at.ensures c.args.self.now.nodes.words _ _ c.made.ensures c.requires.s_value.1 _ _ _ c.count_list.ensures) c.if-not-count_list.false _ _ (list-passed v.document v.words.now a.s v.fits c.requires.s_value.0 attributes c.args.self.now.blocks _ c.arena_at-2.ensures c.args.self.now.nodes.words _ _ c.made.ensures c.requires.s_value.1 _ _ _ c.count_list-2.ensures) c.if-not-count_list-2.true

pub count_list-requires-3 : goal.count_list-requires-3
count_list-requires-3 c =
    let a = c.args in
    let v = c.args.self.now.nodes.view in
    record { marks_in_bounds = omega (arith, c.made.ensures, c.requires.marks_in_bounds, c.count_list-2.auto.marks, c.count_list.auto.marks); at_in_bounds = list_inside v.document v.words.now a.s v.fits c.requires.s_value.0 namespaces c.args.self.now.blocks _ c.arena_at-3.ensures }

pub returns : goal.returns
returns c =
    let a = c.args in
    let v = c.args.self.now.nodes.view in
    third (decoded_nodes v) (slots_made v.document) a.s _ _ _ (list-passed v.document v.words.now a.s v.fits c.requires.s_value.0 children c.args.self.now.blocks _ c.arena_at.ensures c.args.self.now.nodes.words _ _ c.made.ensures c.requires.s_value.1 _ _ _ c.count_list.ensures) c.if-not-count_list.false _ _ (list-passed v.document v.words.now a.s v.fits c.requires.s_value.0 attributes c.args.self.now.blocks _ c.arena_at-2.ensures c.args.self.now.nodes.words _ _ c.made.ensures c.requires.s_value.1 _ _ _ c.count_list-2.ensures) c.if-not-count_list-2.false _ _ (list-passed v.document v.words.now a.s v.fits c.requires.s_value.0 namespaces c.args.self.now.blocks _ c.arena_at-3.ensures c.args.self.now.nodes.words _ _ c.made.ensures c.requires.s_value.1 _ _ _ c.count_list-3.ensures)
