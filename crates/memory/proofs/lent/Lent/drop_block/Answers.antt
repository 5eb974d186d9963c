-- `memory::lent::Lent::drop_block` meets its contract.
-- Assumes nothing.
use mathlib.Core.Path.{refl}
use native.Mathlib.Omega.{arith}
use lib.ListN.{length}
use Rattle.memory.proofs.Arenas.{drop-asked, drop-told}
use Rattle.layout.specs.Layout.{which_of}
use Rattle.layout.proofs.Sizes.{sizes, memory-limits}
use Rattle.memory.proofs.lent.Lent.drop_block.Goals as goal

pub arena_range-requires : goal.arena_range-requires
arena_range-requires c = memory-limits c.args.self.now.document (length c.args.self.now.words.now) c.args.self.now.fits

pub offset_bounds-self-arena_range : goal.offset_bounds-self-arena_range
offset_bounds-self-arena_range c =
    let z = sizes c.args.self.now.document (length c.args.self.now.words.now) c.args.self.now.fits in
    omega (arith, z.narrow (which_of c.args.arena), c.arena_range.ensures.start)

pub slice_bounds-drop_from-end-2 : goal.slice_bounds-drop_from-end-2
slice_bounds-drop_from-end-2 c =
    let z = sizes c.args.self.now.document (length c.args.self.now.words.now) c.args.self.now.fits in
    omega (arith, z.arena (which_of c.args.arena), c.arena_range.ensures.start, c.arena_range.ensures.end)

pub drop_from-requires : goal.drop_from-requires
drop_from-requires c =
    let at = c.arena_range.ensures in
    rw c.block_in.ensures (drop-asked c.args.self.now.document (which_of c.args.arena) c.args.self.now.words.now _ _ at.start at.end _ c.arena_limit-limit.ensures _ _ c.requires)

pub returns : goal.returns
returns c =
    let got = c.drop_from in
    let at = c.arena_range.ensures in
    let q = drop-told c.args.self.now.document (which_of c.args.arena) c.args.self.now.words.now _ _ at.start at.end _ c.arena_limit-limit.ensures _ _ c.requires _ _ _ (rw c.block_in.ensures at got.ensures.by_index, rw c.block_in.ensures at got.ensures.by_index_2) in
    record { value = q.0; lent_after = record { record_is = refl; words_are = q.1; reference = refl } }
