-- `memory::view::View::arena_words` meets its contract.
-- Assumes nothing.
use native.Mathlib.Omega.{arith}
use lib.ListN.{length}
use Rattle.layout.specs.Layout.{which_of}
use Rattle.layout.proofs.Sizes.{sizes, memory-limits}
use Rattle.memory.proofs.Shaped.{length-arena_part}
use Rattle.memory.proofs.Arenas.{arena-lent}
use Rattle.memory.proofs.view.View.arena_words.Goals as goal

pub arena_range-requires : goal.arena_range-requires
arena_range-requires c = memory-limits c.args.self.now.document (length c.args.self.now.words.now) c.args.self.now.fits

pub offset_bounds-self-arena_range : goal.offset_bounds-self-arena_range
offset_bounds-self-arena_range c =
    let w = which_of c.args.arena in
    let z = sizes c.args.self.now.document (length c.args.self.now.words.now) c.args.self.now.fits in
    omega (arith, z.narrow w, c.arena_range.ensures.start)

pub slice_bounds-result-end : goal.slice_bounds-result-end
slice_bounds-result-end c =
    let w = which_of c.args.arena in
    let z = sizes c.args.self.now.document (length c.args.self.now.words.now) c.args.self.now.fits in
    omega (arith, z.arena w, c.arena_range.ensures.start, c.arena_range.ensures.end)

pub invariant_of-result : goal.invariant_of-result
invariant_of-result c =
    let w = which_of c.args.arena in
    let k = length-arena_part c.args.self.now.document c.args.self.now.words.now c.args.self.now.fits w in
    record { sized = rw (arena-lent c.args.self.now.document w c.args.self.now.words.now _ _ c.arena_range.ensures.start c.arena_range.ensures.end) (omega (arith, k, c.arena_limit.ensures)) }

pub returns : goal.returns
returns c = (arena-lent c.args.self.now.document (which_of c.args.arena) c.args.self.now.words.now _ _ c.arena_range.ensures.start c.arena_range.ensures.end, c.arena_limit.ensures)
