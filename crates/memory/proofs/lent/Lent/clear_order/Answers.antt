-- `memory::lent::Lent::clear_order` meets its contract.
-- Assumes nothing.
use native.Mathlib.Omega.{arith}
use lib.ListN.{length}
use mathlib.Core.Path.{refl, ap, ◌∙◌}
use Prim.Native.Nat.{ℕ, ◌≤◌}
use Rattle.slots.specs.Regions.{slots_words, clear_order}
use Rattle.memory.specs.Decode.{slots_part}
use Rattle.memory.specs.Writing.{put_slots}
use Rattle.memory.proofs.Shaped.{length-slots_part}
use Rattle.memory.proofs.Cuts.{slots-asked, slots-told}
use Rattle.layout.proofs.Sizes.{sizes, memory-limits}
use Rattle.memory.proofs.lent.Lent.clear_order.Goals as goal

pub slots_range-requires : goal.slots_range-requires
slots_range-requires c = memory-limits c.args.self.now.document (length c.args.self.now.words.now) c.args.self.now.fits

pub offset_bounds-self-slots_range : goal.offset_bounds-self-slots_range
offset_bounds-self-slots_range c = omega (arith, c.slots_range.ensures.start)

pub slice_bounds-slots-end-2 : goal.slice_bounds-slots-end-2
slice_bounds-slots-end-2 c =
    let z = sizes c.args.self.now.document (length c.args.self.now.words.now) c.args.self.now.fits in
    omega (arith, c.slots_range.ensures.start, c.slots_range.ensures.end)

pub clear_order-requires : goal.clear_order-requires
clear_order-requires c =
    let at = c.slots_range.ensures in
    let n = c.args.self.now.document.limits.nodes in
    slots-asked c.args.self.now.document c.args.self.now.words.now _ _ at.start at.end (λ w. (slots_words n ≤ length w) × (c.made.result ≤ n)) (omega (arith, length-slots_part c.args.self.now.document c.args.self.now.words.now c.args.self.now.fits), omega (arith, c.made.ensures))

pub returns : goal.returns
returns c =
    let got = c.clear_order in
    let at = c.slots_range.ensures in
    let n = c.args.self.now.document.limits.nodes in
    record {
      record_is = refl;
      words_are =
          slots-told c.args.self.now.document c.args.self.now.words.now _ _ at.start at.end c.args.self.now.fits (λ w. clear_order n w c.made.result) _ got.auto.words got.ensures
          ∙ ap (λ (k : ℕ). put_slots (clear_order n (slots_part c.args.self.now.document c.args.self.now.words.now) k) c.args.self.now.words.now) c.made.ensures;
      reference = refl;
    }
