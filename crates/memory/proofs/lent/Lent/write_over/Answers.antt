-- `memory::lent::Lent::write_over` meets its contract.
-- Assumes nothing.
use native.Mathlib.Omega.{arith}
use mathlib.Core.Path.{refl, ◌≡◌}
use mathlib.Core.Bool.{true}
use Prim.Native.Nat.{◌<◌}
use lib.ListN.{length}
use Rattle.words.specs.Ends.{length_of}
use Rattle.texts.specs.Words.{counts_fit, Counted, ReplacedTo}
use Rattle.layout.proofs.Sizes.{memory-limits}
use Rattle.memory.proofs.PoolAndTable.{ends}
use Rattle.memory.proofs.Cuts.{texts-asked, texts-told}
use Rattle.memory.proofs.lent.Lent.write_over.Goals as goal

pub texts_range-requires : goal.texts_range-requires
texts_range-requires c =
    memory-limits c.args.self.now.document (length c.args.self.now.words.now) c.args.self.now.fits

pub offset_bounds-self-texts_range : goal.offset_bounds-self-texts_range
offset_bounds-self-texts_range c =
    let z = ends c.args.self.now.document (length c.args.self.now.words.now) c.args.self.now.fits in
    omega (arith, c.texts_range.ensures.start)

pub slice_bounds-words-end-2 : goal.slice_bounds-words-end-2
slice_bounds-words-end-2 c =
    let z = ends c.args.self.now.document (length c.args.self.now.words.now) c.args.self.now.fits in
    omega (arith, c.texts_range.ensures.start, c.texts_range.ensures.end)

pub replace_text-requires : goal.replace_text-requires
replace_text-requires c =
    texts-asked c.args.self.now.document c.args.self.now.words.now c.text_limits-limits.result c.text_limits-limits.ensures c.text_counts-counts.result c.text_counts-counts.ensures _ _ c.texts_range.ensures.start c.texts_range.ensures.end (λ l n w. Counted l n w × (c.args.slot.0 < n.slots) × (counts_fit l n 0 (length_of w c.args.slot.0) (length c.args.text.now) ≡ true))
    (c.requires.0, c.requires.1, c.requires.2)

pub returns : goal.returns
returns c =
    let got = c.replace_text in
    let q = texts-told c.args.self.now.document c.args.self.now.words.now c.text_limits-limits.result c.text_limits-limits.ensures c.text_counts-counts.result c.text_counts-counts.ensures _ _ c.texts_range.ensures.start c.texts_range.ensures.end c.args.self.now.fits (λ l n w v. ReplacedTo l n w v c.args.slot.0 c.args.text.now got.result) _ got.auto.words got.ensures in
    record { replaced_to = q.0; lent_after = record { record_is = refl; words_are = q.1; reference = refl } }
