-- `memory::lent::Lent::push_text` meets its contract.
-- Assumes nothing.
use mathlib.Core.Path.{refl}
use native.Mathlib.Omega.{arith}
use Prim.Native.Nat.{◌<◌}
use lib.ListN.{length}
use Rattle.texts.specs.Words.{Counted, PushedTo}
use Rattle.layout.proofs.Sizes.{memory-limits}
use Rattle.memory.proofs.PoolAndTable.{ends}
use Rattle.memory.proofs.Cuts.{texts-asked, texts-told}
use Rattle.memory.proofs.lent.Lent.push_text.Goals as goal

pub texts_range-requires : goal.texts_range-requires
texts_range-requires c =
    memory-limits c.args.self.now.document (length c.args.self.now.words.now) c.args.self.now.fits

pub offset_bounds-self-texts_range : goal.offset_bounds-self-texts_range
offset_bounds-self-texts_range c =
    let z = ends c.args.self.now.document (length c.args.self.now.words.now) c.args.self.now.fits in
    omega (arith, c.texts_range.ensures.start)

pub slice_bounds-words-end-2 : goal.slice_bounds-words-end-2
slice_bounds-words-end-2 c =
    let z = ends c.args.self.now.document (length c.args.self.now.words.now) c.args.self.now.fits in
    omega (arith, c.texts_range.ensures.start, c.texts_range.ensures.end)

pub push_slot-requires : goal.push_slot-requires
push_slot-requires c =
    texts-asked c.args.self.now.document c.args.self.now.words.now c.text_limits-limits.result c.text_limits-limits.ensures c.text_counts-counts.result c.text_counts-counts.ensures _ _ c.texts_range.ensures.start c.texts_range.ensures.end (λ l n w. Counted l n w × (n.free < l.slots))
    (c.requires.0, c.requires.1)

pub returns : goal.returns
returns c =
    let got = c.push_slot in
    let q = texts-told c.args.self.now.document c.args.self.now.words.now c.text_limits-limits.result c.text_limits-limits.ensures c.text_counts-counts.result c.text_counts-counts.ensures _ _ c.texts_range.ensures.start c.texts_range.ensures.end c.args.self.now.fits (λ l n w v. PushedTo l n w v c.args.slot.0 got.result) _ got.auto.words got.ensures in
    record { pushed_to = q.0; lent_after = record { record_is = refl; words_are = q.1; reference = refl } }
