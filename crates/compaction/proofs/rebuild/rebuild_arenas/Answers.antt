-- `compaction::rebuild::rebuild_arenas` meets its contract.
-- Assumes nothing.
use mathlib.Core.Path.{ap, ◌∙◌}
use lib.ListN.{length}
use Rattle.layout.specs.declared.Document.{Document}
use Rattle.walks.proofs.Cleared.{scratch-nodes}
use Rattle.compaction.specs.Copies.{lengths_rebuilt}
use Rattle.compaction.proofs.Compacted.{laid-fits, rebuilt-step}
use Rattle.compaction.proofs.rebuild.rebuild_arenas.Goals as goal

pub lay_trees-used-requires : goal.lay_trees-used-requires
lay_trees-used-requires c = (scratch-nodes c.args.lent.now.document (length c.args.scratch.now) c.requires.0, c.requires.1)

pub replace_arenas-requires : goal.replace_arenas-requires
replace_arenas-requires c =
    let l = c.args.lent.now in
    let lay = c.lay_trees-used.ensures in
    rw lay.lent_after.record_is (laid-fits l.document l.words.now _ _ lay.laid)

pub returns : goal.returns
returns c =
    let l = c.args.lent.now in
    let lay = c.lay_trees-used.ensures in
    let replace = c.replace_arenas.ensures in
    let put = c.put_record.ensures in
    record {
      step =
          rebuilt-step l.document l.words.now _ _ lay.laid _ (put.words_are ∙ (rw lay.lent_after.record_is at replace.words_are)) _
          (put.record_is ∙ c.with_lengths.ensures ∙ ap (λ (d : Document). lengths_rebuilt d c.lay_trees-used.result) (replace.record_is ∙ lay.lent_after.record_is));
      reference = put.reference ∙ replace.reference ∙ lay.lent_after.reference;
    }
