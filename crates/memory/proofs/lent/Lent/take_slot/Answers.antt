-- `memory::lent::Lent::take_slot` meets its contract.
-- Assumes nothing.
use mathlib.Core.Path.{refl}
use native.Mathlib.Omega.{arith}
use lib.ListN.{length}
use Rattle.memory.proofs.Cuts.{take-asked, take-told}
use Rattle.layout.proofs.Sizes.{sizes, memory-limits}
use Rattle.memory.proofs.lent.Lent.take_slot.Goals as goal

pub slots_range-requires : goal.slots_range-requires
slots_range-requires c = memory-limits c.args.self.now.document (length c.args.self.now.words.now) c.args.self.now.fits

pub offset_bounds-self-slots_range : goal.offset_bounds-self-slots_range
offset_bounds-self-slots_range c = omega (arith, c.slots_range.ensures.start)

pub slice_bounds-slots-end-2 : goal.slice_bounds-slots-end-2
slice_bounds-slots-end-2 c =
    let z = sizes c.args.self.now.document (length c.args.self.now.words.now) c.args.self.now.fits in
    omega (arith, c.slots_range.ensures.start, c.slots_range.ensures.end)

pub alloc-requires : goal.alloc-requires
alloc-requires c =
    let at = c.slots_range.ensures in
    take-asked c.args.self.now.document c.args.self.now.words.now _ _ at.start at.end _ _ c.made.ensures c.free.ensures c.requires

pub returns : goal.returns
returns c =
    let got = c.alloc in
    let at = c.slots_range.ensures in
    let q = take-told c.args.self.now.document c.args.self.now.words.now _ _ at.start at.end c.args.self.now.fits _ _ c.made.ensures c.free.ensures got.result _ got.auto.words got.ensures in
    record { value = q.0; lent_after = record { record_is = refl; words_are = q.1; reference = refl } }
