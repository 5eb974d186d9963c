-- `memory::view::View::texts_words` meets its contract.
-- Assumes nothing.
use native.Mathlib.Omega.{arith}
use lib.ListN.{length}
use Rattle.layout.proofs.Sizes.{memory-limits}
use Rattle.memory.proofs.PoolAndTable.{ends, texts-lent}
use Rattle.memory.proofs.view.View.texts_words.Goals as goal

pub texts_range-requires : goal.texts_range-requires
texts_range-requires c =
    memory-limits c.args.self.now.document (length c.args.self.now.words.now) c.args.self.now.fits

pub offset_bounds-self-texts_range : goal.offset_bounds-self-texts_range
offset_bounds-self-texts_range c =
    let z = ends c.args.self.now.document (length c.args.self.now.words.now) c.args.self.now.fits in
    omega (arith, c.texts_range.ensures.start)

pub slice_bounds-result-end : goal.slice_bounds-result-end
slice_bounds-result-end c =
    let z = ends c.args.self.now.document (length c.args.self.now.words.now) c.args.self.now.fits in
    omega (arith, c.texts_range.ensures.start, c.texts_range.ensures.end)

pub returns : goal.returns
returns c =
    texts-lent c.args.self.now.document c.args.self.now.words.now _ _ c.texts_range.ensures.start c.texts_range.ensures.end
