-- `memory::lent::Lent::put_words` meets its contract.
-- Assumes nothing.
use mathlib.Core.Path.{refl}
use native.Mathlib.Omega.{arith}
use Prim.Native.Nat.{◌≤◌, ◌<◌}
use lib.ListN.{length}
use Rattle.slots.specs.Regions.{slots_words, put_record}
use Rattle.memory.proofs.Shaped.{length-slots_part}
use Rattle.memory.proofs.Cuts.{slots-asked, slots-told}
use Rattle.layout.proofs.Sizes.{sizes, memory-limits}
use Rattle.memory.proofs.lent.Lent.put_words.Goals as goal

pub slots_range-requires : goal.slots_range-requires
slots_range-requires c = memory-limits c.args.self.now.document (length c.args.self.now.words.now) c.args.self.now.fits

pub offset_bounds-self-slots_range : goal.offset_bounds-self-slots_range
offset_bounds-self-slots_range c = omega (arith, c.slots_range.ensures.start)

pub slice_bounds-store_record-end-2 : goal.slice_bounds-store_record-end-2
slice_bounds-store_record-end-2 c =
    let z = sizes c.args.self.now.document (length c.args.self.now.words.now) c.args.self.now.fits in
    omega (arith, c.slots_range.ensures.start, c.slots_range.ensures.end)

pub store_record-requires : goal.store_record-requires
store_record-requires c =
    let at = c.slots_range.ensures in
    let n = c.args.self.now.document.limits.nodes in
    slots-asked c.args.self.now.document c.args.self.now.words.now _ _ at.start at.end (λ w. (slots_words n ≤ length w) × (c.args.slot.0 < n)) (omega (arith, length-slots_part c.args.self.now.document c.args.self.now.words.now c.args.self.now.fits), c.requires)

pub returns : goal.returns
returns c =
    let got = c.store_record in
    let at = c.slots_range.ensures in
    record { record_is = refl; words_are = slots-told c.args.self.now.document c.args.self.now.words.now _ _ at.start at.end c.args.self.now.fits (λ w. put_record c.args.self.now.document.limits.nodes w c.args.slot.0 c.args.r) _ got.auto.words got.ensures; reference = refl }
