-- `exports::show::show_entries` meets its contract.
-- Assumes nothing.
use Rattle.blocks.specs.Arena.{block}
use Rattle.exports.proofs.Showing.{entries-children, entries-attributes, entries-namespaces, entries-other}
use Rattle.exports.proofs.show.show_entries.Goals as goal

pub returns-in-0 : goal.returns-in-0
returns-in-0 c =
    entries-children c.args.d c.args.memory.now c.args.arena (block c.args.start c.args.len) c.in-0.is _ c.show_block.ensures

pub returns-in-1 : goal.returns-in-1
returns-in-1 c =
    entries-attributes c.args.d c.args.memory.now c.args.arena (block c.args.start c.args.len) c.in-1.is _ c.show_block-in-1.ensures

pub returns-in-2 : goal.returns-in-2
returns-in-2 c =
    entries-namespaces c.args.d c.args.memory.now c.args.arena (block c.args.start c.args.len) c.in-2.is _ c.show_block-in-2.ensures

pub returns-in_default : goal.returns-in_default
returns-in_default c =
    let m = c.in_default.in_default-own.rest in
    entries-other c.args.d c.args.memory.now c.args.arena (block c.args.start c.args.len) m.0.0.1 m.0.1 m.1
