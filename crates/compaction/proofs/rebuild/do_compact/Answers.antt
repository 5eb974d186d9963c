-- `compaction::rebuild::do_compact` meets its contract.
-- Assumes nothing.
use mathlib.Core.Path.{◌∙◌}
use Rattle.compaction.proofs.Compacted.{rebuilt-walkable, compacted}
use Rattle.compaction.proofs.rebuild.do_compact.Goals as goal

pub renew_order-requires : goal.renew_order-requires
renew_order-requires c =
    let l = c.args.lent.now in
    let rebuilt = c.rebuild_arenas in
    (rw (rebuilt.ensures.step.limits, rebuilt.auto.scratch) c.requires.0, rebuilt-walkable l.document l.words.now l.fits c.requires.1 _ _ rebuilt.ensures.step)

pub returns : goal.returns
returns c =
    let l = c.args.lent.now in
    let rebuilt = c.rebuild_arenas in
    let order = c.renew_order.ensures.lent_after in
    record {
      performed = compacted l.document l.words.now l.fits c.requires.1 _ _ rebuilt.ensures.step rebuilt.new.lent.fits _ _ order.record_is order.words_are;
      reference = order.reference ∙ rebuilt.ensures.reference;
    }
