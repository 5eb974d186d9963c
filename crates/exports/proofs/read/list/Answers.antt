-- `exports::read::list` meets its contract.
-- Assumes nothing.
use lib.ListN.{length}
use Rattle.layout.specs.Layout.{which_of}
use Rattle.encoding.specs.Given.{list_words}
use Rattle.reading.specs.Contract.{list_call}
use Rattle.exports.specs.Contract.{as_list}
use Rattle.encoding.proofs.Records.{whole}
use Rattle.exports.proofs.Reading.{tells-list, read_word, read_short, shows}
use Rattle.exports.proofs.read.list.Goals as goal

pub give_list-requires : goal.give_list-requires
give_list-requires c =
    (whole c.args.document.now (length c.args.answer.now) 2 _ _ c.lent_record.ensures c.in-Some.is).enough

pub returns-in_default : goal.returns-in_default
returns-in_default c =
    rw c.refused.ensures (read_short (list_call (which_of c.args.arena) c.args.id) 2 (as_list (which_of c.args.arena)) c.args.document.now c.args.memory.now c.args.answer.now _ c.lent_record.ensures c.in_default.is)

pub returns : goal.returns
returns c =
    let w = which_of c.args.arena in
    shows (list_call w c.args.id) 2 (as_list w) c.args.document.now c.args.memory.now c.args.answer.now c.in-Some.d (whole c.args.document.now (length c.args.answer.now) 2 _ _ c.lent_record.ensures c.in-Some.is) (list_words c.list.result) _ _ _
    (tells-list c.in-Some.d c.args.memory.now w c.list.result)
    (read_word (list_call w) c.args.id _ c.from.ensures _ _ _ c.list.ensures)
    c.give_list.ensures
