-- `edits::moves::move_to` meets its contract.
-- Assumes nothing.
use Rattle.records.specs.Handles.{word_of}
use Rattle.edits.proofs.Moving.{admitted-at, at-performed}
use Rattle.edits.proofs.moves.move_to.Goals as goal

pub do_insert_at-requires : goal.do_insert_at-requires
do_insert_at-requires c = admitted-at c.args.lent.now.document c.args.lent.now.words.now (word_of c.args.parent) c.args.at (word_of c.args.id) c.requires

pub returns : goal.returns
returns c =
    let w = c.do_insert_at in
    record { performed = at-performed c.args.lent.now.document c.args.lent.now.words.now (word_of c.args.parent) c.args.at (word_of c.args.id) c.requires w.new.lent.document _ w.ensures.step; reference = w.ensures.reference }
