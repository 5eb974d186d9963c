-- `memory::view::View::slots` meets its contract.
-- Assumes nothing.
use mathlib.Core.Path.{refl}
use native.Mathlib.Omega.{arith}
use lib.ListN.{length}
use Rattle.layout.proofs.Sizes.{sizes, memory-limits}
use Rattle.memory.proofs.Shaped.{length-slots_part}
use Rattle.memory.proofs.Reading.{slots_lent}
use Rattle.memory.proofs.view.View.slots.Goals as goal

pub slots_range-requires : goal.slots_range-requires
slots_range-requires c = memory-limits c.args.self.now.document (length c.args.self.now.words.now) c.args.self.now.fits

pub slice_bounds-result-end : goal.slice_bounds-result-end
slice_bounds-result-end c =
    let z = sizes c.args.self.now.document (length c.args.self.now.words.now) c.args.self.now.fits in
    omega (arith, c.slots_range.ensures.start, c.slots_range.ensures.end)

pub invariant_of-result : goal.invariant_of-result
invariant_of-result c =
    record { long = rw (slots_lent c.args.self.now.document c.args.self.now.words.now _ _ c.slots_range.ensures.start c.slots_range.ensures.end) (omega (arith, length-slots_part c.args.self.now.document c.args.self.now.words.now c.args.self.now.fits)) }

pub returns : goal.returns
returns c = (refl, slots_lent c.args.self.now.document c.args.self.now.words.now _ _ c.slots_range.ensures.start c.slots_range.ensures.end)
