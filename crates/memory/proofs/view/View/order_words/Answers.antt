-- `memory::view::View::order_words` meets its contract.
-- Assumes nothing.
use native.Mathlib.Omega.{arith}
use lib.ListN.{length}
use Rattle.layout.proofs.Sizes.{sizes}
use Rattle.memory.proofs.Cuts.{orders-cut}
use Rattle.memory.proofs.view.View.order_words.Goals as goal

pub overflow_mul-start : goal.overflow_mul-start
overflow_mul-start c =
    let z = sizes c.args.self.now.document (length c.args.self.now.words.now) c.args.self.now.fits in
    omega arith

pub overflow_add-end : goal.overflow_add-end
overflow_add-end c =
    let z = sizes c.args.self.now.document (length c.args.self.now.words.now) c.args.self.now.fits in
    omega (arith, c.made.ensures)

pub offset_bounds-self-start : goal.offset_bounds-self-start
offset_bounds-self-start c =
    let z = sizes c.args.self.now.document (length c.args.self.now.words.now) c.args.self.now.fits in
    omega arith

pub slice_bounds-result-end : goal.slice_bounds-result-end
slice_bounds-result-end c =
    let z = sizes c.args.self.now.document (length c.args.self.now.words.now) c.args.self.now.fits in
    omega (arith, c.made.ensures)

pub returns : goal.returns
returns c =
    orders-cut c.args.self.now.document c.args.self.now.words.now _ c.made.ensures
