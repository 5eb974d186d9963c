-- `structure::pool::clear_texts` meets its contract.
-- Assumes nothing.
use mathlib.Core.Path.{◌≡◌, refl}
use borrow.Author.Rules.{rules}
use lib.ListN.{replicate}
use Rattle.structure.proofs.Claimed.{cleared_at}
use Rattle.structure.proofs.pool.clear_texts.Goals as goal

pub returns : goal.returns
returns c =
    let e : c.fill.new.self ≡ replicate c.args.d.counts.texts 0 = search rules in
    cleared_at _ _ _ _ c.args.scratch.now _ c.marks_at-at.ensures refl e
