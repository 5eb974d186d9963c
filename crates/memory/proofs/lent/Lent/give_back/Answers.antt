-- `memory::lent::Lent::give_back` meets its contract.
-- Assumes nothing.
use mathlib.Core.Path.{refl}
use native.Mathlib.Omega.{arith}
use lib.ListN.{length}
use Rattle.texts.specs.Words.{Reclaimable, ReclaimedTo}
use Rattle.layout.proofs.Sizes.{memory-limits}
use Rattle.memory.proofs.PoolAndTable.{ends}
use Rattle.memory.proofs.Cuts.{texts-asked, texts-told, marks-lent}
use Rattle.memory.proofs.lent.Lent.give_back.Goals as goal

pub texts_range-requires : goal.texts_range-requires
texts_range-requires c =
    memory-limits c.args.self.now.document (length c.args.self.now.words.now) c.args.self.now.fits

pub offset_bounds-self-texts_range : goal.offset_bounds-self-texts_range
offset_bounds-self-texts_range c =
    let z = ends c.args.self.now.document (length c.args.self.now.words.now) c.args.self.now.fits in
    omega (arith, c.texts_range.ensures.start)

pub slice_bounds-words-end-2 : goal.slice_bounds-words-end-2
slice_bounds-words-end-2 c =
    let z = ends c.args.self.now.document (length c.args.self.now.words.now) c.args.self.now.fits in
    omega (arith, c.texts_range.ensures.start, c.texts_range.ensures.end)

pub slice_bounds-reclaim-end : goal.slice_bounds-reclaim-end
slice_bounds-reclaim-end c =
    let z = ends c.args.self.now.document (length c.args.self.now.words.now) c.args.self.now.fits in
    omega (arith, c.texts_range.ensures.start, c.texts_range.ensures.end)

pub reclaim-requires : goal.reclaim-requires
reclaim-requires c =
    let a = c.args in (
      texts-asked a.self.now.document a.self.now.words.now c.text_limits-limits.result c.text_limits-limits.ensures c.text_counts-counts.result c.text_counts-counts.ensures _ _ c.texts_range.ensures.start c.texts_range.ensures.end Reclaimable c.requires.0,
      rw c.text_counts-counts.ensures (marks-lent a.self.now.document a.self.now.words.now a.scratch.now a.self.now.document.counts.texts c.requires.1),
    )

pub returns : goal.returns
returns c =
    let got = c.reclaim in
    let q = texts-told c.args.self.now.document c.args.self.now.words.now c.text_limits-limits.result c.text_limits-limits.ensures c.text_counts-counts.result c.text_counts-counts.ensures _ _ c.texts_range.ensures.start c.texts_range.ensures.end c.args.self.now.fits (λ l n w v. ReclaimedTo l n w v got.result) _ got.auto.words got.ensures in
    record { reclaimed_to = q.0; lent_after = record { record_is = refl; words_are = q.1; reference = refl } }
