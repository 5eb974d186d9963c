-- `edits::moves::move_last` meets its contract.
-- Assumes nothing.
use Rattle.records.specs.Handles.{word_of}
use Rattle.edits.proofs.Moving.{admitted-last, last-performed}
use Rattle.edits.proofs.moves.move_last.Goals as goal

pub do_reparent-requires : goal.do_reparent-requires
do_reparent-requires c = admitted-last c.args.lent.now.document c.args.lent.now.words.now (word_of c.args.parent) (word_of c.args.id) c.requires

pub returns : goal.returns
returns c =
    let w = c.do_reparent in
    record { performed = last-performed c.args.lent.now.document c.args.lent.now.words.now (word_of c.args.parent) (word_of c.args.id) c.requires w.new.lent.document _ w.ensures.step; reference = w.ensures.reference }
