-- `entries::node_lists::Lists::check_entries` meets its contract.
-- Assumes nothing.
use mathlib.Core.Path.{◌∙◌}
use Rattle.entries.proofs.Counting.{rule-refused, rule-decided}
use Rattle.entries.proofs.node_lists.Lists.check_entries.Goals as goal

pub returns-then-count_lists : goal.returns-then-count_lists
returns-then-count_lists c =
    let a = c.args in
    let v = c.args.self.now.nodes.view in
    rule-decided v.document v.words.now a.marks.now _ _ c.count_lists.ensures c.if-count_lists.true v.fits c.requires.parents c.requires.marks_zero.0 c.requires.marks_zero.1 _ c.all_entered.ensures

pub returns-else-count_lists : goal.returns-else-count_lists
returns-else-count_lists c =
    let a = c.args in
    let v = c.args.self.now.nodes.view in
    c.if-count_lists.false ∙ rule-refused v.document v.words.now a.marks.now _ _ c.count_lists.ensures c.if-count_lists.false
