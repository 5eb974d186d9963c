-- `memory::view::View::names_words` meets its contract.
-- Assumes nothing.
use native.Mathlib.Omega.{arith}
use lib.ListN.{length}
use Rattle.layout.proofs.Sizes.{memory-limits}
use Rattle.memory.proofs.PoolAndTable.{ends, names-lent}
use Rattle.memory.proofs.view.View.names_words.Goals as goal

pub names_range-requires : goal.names_range-requires
names_range-requires c =
    memory-limits c.args.self.now.document (length c.args.self.now.words.now) c.args.self.now.fits

pub offset_bounds-self-names_range : goal.offset_bounds-self-names_range
offset_bounds-self-names_range c =
    let z = ends c.args.self.now.document (length c.args.self.now.words.now) c.args.self.now.fits in
    omega (arith, c.names_range.ensures.start)

pub slice_bounds-result-end : goal.slice_bounds-result-end
slice_bounds-result-end c =
    let z = ends c.args.self.now.document (length c.args.self.now.words.now) c.args.self.now.fits in
    omega (arith, c.names_range.ensures.start, c.names_range.ensures.end)

pub returns : goal.returns
returns c =
    names-lent c.args.self.now.document c.args.self.now.words.now _ _ c.names_range.ensures.start c.names_range.ensures.end
