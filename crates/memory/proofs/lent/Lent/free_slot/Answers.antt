-- `memory::lent::Lent::free_slot` meets its contract.
-- Assumes nothing.
use mathlib.Core.Path.{refl}
use native.Mathlib.Omega.{arith}
use lib.ListN.{length}
use mathlib.Core.List.{List}
use Prim.Native.Nat.{ℕ, ◌≤◌, ◌<◌}
use Rattle.slots.specs.Regions.{slots_words, generation_at}
use Rattle.slots.specs.Slots.{freed_words}
use Rattle.memory.proofs.Shaped.{length-slots_part}
use Rattle.memory.proofs.Cuts.{slots-asked, slots-told}
use Rattle.layout.proofs.Sizes.{sizes, memory-limits}
use Rattle.memory.proofs.lent.Lent.free_slot.Goals as goal

pub slots_range-requires : goal.slots_range-requires
slots_range-requires c = memory-limits c.args.self.now.document (length c.args.self.now.words.now) c.args.self.now.fits

pub offset_bounds-self-slots_range : goal.offset_bounds-self-slots_range
offset_bounds-self-slots_range c = omega (arith, c.slots_range.ensures.start)

pub slice_bounds-slots-end-2 : goal.slice_bounds-slots-end-2
slice_bounds-slots-end-2 c =
    let z = sizes c.args.self.now.document (length c.args.self.now.words.now) c.args.self.now.fits in
    omega (arith, c.slots_range.ensures.start, c.slots_range.ensures.end)

pub free_slot-requires : goal.free_slot-requires
free_slot-requires c =
    let at = c.slots_range.ensures in
    let n = c.args.self.now.document.limits.nodes in
    slots-asked c.args.self.now.document c.args.self.now.words.now _ _ at.start at.end (λ (w : List ℕ). (slots_words n ≤ length w) × (c.args.slot.0 < n) × (c.args.self.now.document.counts.free < n) × (generation_at n w c.args.slot.0 < 4294967296))
    (omega (arith, length-slots_part c.args.self.now.document c.args.self.now.words.now c.args.self.now.fits), c.requires.0, c.requires.1, c.requires.2)

pub returns : goal.returns
returns c =
    let got = c.free_slot in
    let at = c.slots_range.ensures in
    record { value = got.ensures.0; lent_after = record { record_is = refl; words_are = slots-told c.args.self.now.document c.args.self.now.words.now _ _ at.start at.end c.args.self.now.fits (λ w. freed_words c.args.self.now.document.limits.nodes w c.args.self.now.document.counts.free c.args.slot.0) _ got.auto.words got.ensures.1; reference = refl } }
