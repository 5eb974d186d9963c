-- `memory::lent::Lent::write_text` meets its contract.
-- Assumes nothing.
use native.Mathlib.Omega.{arith}
use mathlib.Core.Path.{refl, ◌≡◌}
use mathlib.Core.Bool.{true}
use Prim.Native.Nat.{◌≤◌}
use lib.ListN.{length}
use Rattle.texts.specs.Pool.{slots_for}
use Rattle.texts.specs.Words.{counts_fit, PoolHeld, StoredTo}
use Rattle.layout.specs.Layout.{limits_of}
use Rattle.layout.proofs.Sizes.{memory-limits, limits-fit}
use Rattle.memory.proofs.PoolAndTable.{ends}
use Rattle.memory.proofs.Cuts.{texts-asked, texts-told}
use Rattle.memory.proofs.lent.Lent.write_text.Goals as goal

pub texts_range-requires : goal.texts_range-requires
texts_range-requires c =
    memory-limits c.args.self.now.document (length c.args.self.now.words.now) c.args.self.now.fits

pub offset_bounds-self-texts_range : goal.offset_bounds-self-texts_range
offset_bounds-self-texts_range c =
    let z = ends c.args.self.now.document (length c.args.self.now.words.now) c.args.self.now.fits in
    omega (arith, c.texts_range.ensures.start)

pub slice_bounds-words-end-2 : goal.slice_bounds-words-end-2
slice_bounds-words-end-2 c =
    let z = ends c.args.self.now.document (length c.args.self.now.words.now) c.args.self.now.fits in
    omega (arith, c.texts_range.ensures.start, c.texts_range.ensures.end)

pub store_text-requires : goal.store_text-requires
store_text-requires c =
    let z = limits-fit (limits_of c.args.self.now.document.limits) (memory-limits c.args.self.now.document (length c.args.self.now.words.now) c.args.self.now.fits) in
    texts-asked c.args.self.now.document c.args.self.now.words.now c.text_limits-limits.result c.text_limits-limits.ensures c.text_counts-counts.result c.text_counts-counts.ensures _ _ c.texts_range.ensures.start c.texts_range.ensures.end (λ l n w. PoolHeld l n w × (counts_fit l n (slots_for c.args.text.now) 0 (length c.args.text.now) ≡ true) × (l.slots ≤ 4294967296))
    (c.requires.0, c.requires.1, omega (arith, z.texts))

pub returns : goal.returns
returns c =
    let got = c.store_text in
    let q = texts-told c.args.self.now.document c.args.self.now.words.now c.text_limits-limits.result c.text_limits-limits.ensures c.text_counts-counts.result c.text_counts-counts.ensures _ _ c.texts_range.ensures.start c.texts_range.ensures.end c.args.self.now.fits (λ l n w v. StoredTo l n w v c.args.text.now got.result) _ got.auto.words got.ensures in
    record { stored_to = q.0; lent_after = record { record_is = refl; words_are = q.1; reference = refl } }
