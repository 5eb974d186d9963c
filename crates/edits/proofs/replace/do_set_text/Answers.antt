-- `edits::replace::do_set_text` meets its contract.
-- Assumes nothing.
use Rattle.records.specs.Handles.{word_of}
use Rattle.edits.proofs.Replaced.{set-ready, set-performed}
use Rattle.edits.proofs.replace.do_set_text.Goals as goal

pub do_replace_text-requires : goal.do_replace_text-requires
do_replace_text-requires c = set-ready c.args.lent.now.document c.args.lent.now.words.now (word_of c.args.id) c.args.text.now c.requires

pub returns : goal.returns
returns c =
    let w = c.do_replace_text in
    record { performed = set-performed c.args.lent.now.document c.args.lent.now.words.now (word_of c.args.id) c.args.text.now c.requires w.new.lent.document _ w.ensures.step; reference = w.ensures.reference }
