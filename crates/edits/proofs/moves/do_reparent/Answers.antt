-- `edits::moves::do_reparent` meets its contract.
-- Assumes nothing.
use mathlib.Core.Path.{◌∙◌}
use Rattle.records.specs.Handles.{word_of}
use Rattle.edits.proofs.Lists.{moved_ready, reparent-step}
use Rattle.edits.proofs.moves.do_reparent.Goals as goal

pub attach_last-requires : goal.attach_last-requires
attach_last-requires c =
    let a = c.args in
    let alone = c.unhook in
    moved_ready a.lent.now.document a.lent.now.words.now (word_of a.parent) (word_of a.id) c.requires alone.new.lent.document _ alone.ensures.step

pub returns : goal.returns
returns c =
    let a = c.args in
    let alone = c.unhook in
    let linked = c.attach_last in
    record {
      step = reparent-step a.lent.now.document a.lent.now.words.now (word_of a.parent) (word_of a.id) c.requires alone.new.lent.document _ alone.ensures.step linked.new.lent.document _ linked.ensures.step;
      reference = linked.ensures.reference ∙ alone.ensures.reference;
    }
