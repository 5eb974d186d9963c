-- `memory::view::View::entry` meets its contract.
-- Assumes nothing.
use native.Mathlib.Omega.{arith}
use lib.ListN.{length}
use Rattle.layout.specs.Layout.{which_of}
use Rattle.layout.proofs.Sizes.{sizes, memory-limits}
use Rattle.memory.proofs.Reading.{entry_read}
use Rattle.memory.proofs.view.View.entry.Goals as goal

pub arena_at-start-requires : goal.arena_at-start-requires
arena_at-start-requires c =
    memory-limits c.args.self.now.document (length c.args.self.now.words.now) c.args.self.now.fits

pub overflow_add-result : goal.overflow_add-result
overflow_add-result c =
    let w = which_of c.args.arena in
    let z = sizes c.args.self.now.document (length c.args.self.now.words.now) c.args.self.now.fits in
    omega (arith, z.arena w, z.narrow w)

pub offset_bounds-self-start : goal.offset_bounds-self-start
offset_bounds-self-start c =
    let w = which_of c.args.arena in
    let z = sizes c.args.self.now.document (length c.args.self.now.words.now) c.args.self.now.fits in
    omega (arith, z.arena w, z.narrow w)

pub bounds-self-start : goal.bounds-self-start
bounds-self-start c =
    let w = which_of c.args.arena in
    let z = sizes c.args.self.now.document (length c.args.self.now.words.now) c.args.self.now.fits in
    omega (arith, z.arena w, z.narrow w)

pub returns : goal.returns
returns c =
    entry_read c.args.self.now.document (which_of c.args.arena) c.args.self.now.words.now _ _ c.arena_at-start.ensures c.requires
