-- `memory::view::View::block_words` meets its contract.
-- Assumes nothing.
use native.Mathlib.Omega.{arith}
use lib.ListN.{length}
use Rattle.layout.specs.Layout.{which_of}
use Rattle.memory.specs.Decode.{block_of}
use Rattle.layout.proofs.Sizes.{memory-limits, sizes}
use Rattle.memory.proofs.Cuts.{block-lent}
use Rattle.memory.proofs.view.View.block_words.Goals as goal

pub arena_at-requires : goal.arena_at-requires
arena_at-requires c =
    memory-limits c.args.self.now.document (length c.args.self.now.words.now) c.args.self.now.fits

pub overflow_add-start : goal.overflow_add-start
overflow_add-start c =
    let z = sizes c.args.self.now.document (length c.args.self.now.words.now) c.args.self.now.fits in
    let w = which_of c.args.arena in
    omega (arith, z.arena w, z.narrow w, c.arena_at.ensures)

pub overflow_add-end : goal.overflow_add-end
overflow_add-end c =
    let z = sizes c.args.self.now.document (length c.args.self.now.words.now) c.args.self.now.fits in
    let w = which_of c.args.arena in
    omega (arith, z.arena w, z.narrow w, c.arena_at.ensures)

pub offset_bounds-self-start : goal.offset_bounds-self-start
offset_bounds-self-start c =
    let z = sizes c.args.self.now.document (length c.args.self.now.words.now) c.args.self.now.fits in
    let w = which_of c.args.arena in
    omega (arith, z.arena w, z.narrow w, c.arena_at.ensures)

pub slice_bounds-result-end : goal.slice_bounds-result-end
slice_bounds-result-end c =
    let z = sizes c.args.self.now.document (length c.args.self.now.words.now) c.args.self.now.fits in
    let w = which_of c.args.arena in
    omega (arith, z.arena w, z.narrow w, c.arena_at.ensures)

pub returns : goal.returns
returns c =
    block-lent c.args.self.now.document c.args.self.now.words.now (which_of c.args.arena) _ (block_of c.args.block) c.arena_at.ensures c.requires
