-- `memory::lent::Lent::replace_blocks` meets its contract.
-- Assumes nothing.
use mathlib.Core.Path.{refl}
use native.Mathlib.Omega.{arith}
use lib.ListN.{length}
use Rattle.blocks.specs.Arena.{arena_words}
use Rattle.blocks.specs.Compact.{copied}
use Rattle.memory.proofs.Cuts.{arena-told}
use Rattle.layout.specs.Layout.{which_of}
use Rattle.layout.proofs.Sizes.{sizes, memory-limits}
use Rattle.memory.proofs.lent.Lent.replace_blocks.Goals as goal

pub arena_range-requires : goal.arena_range-requires
arena_range-requires c = memory-limits c.args.self.now.document (length c.args.self.now.words.now) c.args.self.now.fits

pub offset_bounds-self-arena_range : goal.offset_bounds-self-arena_range
offset_bounds-self-arena_range c =
    let z = sizes c.args.self.now.document (length c.args.self.now.words.now) c.args.self.now.fits in
    omega (arith, z.narrow (which_of c.args.arena), c.arena_range.ensures.start)

pub slice_bounds-words-end-2 : goal.slice_bounds-words-end-2
slice_bounds-words-end-2 c =
    let z = sizes c.args.self.now.document (length c.args.self.now.words.now) c.args.self.now.fits in
    omega (arith, z.arena (which_of c.args.arena), c.arena_range.ensures.start, c.arena_range.ensures.end)

pub returns : goal.returns
returns c =
    let got = c.replace_blocks in
    let at = c.arena_range.ensures in
    record { record_is = refl; words_are = arena-told c.args.self.now.document c.args.self.now.words.now c.args.self.now.fits (which_of c.args.arena) _ _ at.start at.end got.new.arena got.auto.arena _ c.arena_limit.ensures (λ l w. arena_words (copied l c.args.used w)) got.ensures; reference = refl }
