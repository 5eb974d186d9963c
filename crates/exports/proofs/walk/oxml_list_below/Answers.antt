-- `exports::walk::oxml_list_below` meets its contract.
-- Assumes nothing.
use lib.ListN.{length}
use Rattle.encoding.proofs.Records.{whole}
use Rattle.exports.proofs.Walks.{below-short, below-given}
use Rattle.exports.proofs.walk.oxml_list_below.Goals as goal

pub give_count-requires : goal.give_count-requires
give_count-requires c =
    (whole c.args.document.now (length c.args.answer.now) 1 _ _ c.lent_record.ensures c.in-Some.is).enough

pub returns-in_default : goal.returns-in_default
returns-in_default c =
    rw c.refused.ensures (below-short c.args.zone c.args.document.now c.args.memory.now c.args.list.now c.args.answer.now _ c.lent_record.ensures c.in_default.is)

pub returns : goal.returns
returns c =
    below-given c.args.zone c.args.document.now c.args.memory.now c.args.list.now c.args.answer.now c.in-Some.d
    (whole c.args.document.now (length c.args.answer.now) 1 _ _ c.lent_record.ensures c.in-Some.is) _ c.from-id.ensures _ _ c.list_below-written.ensures _ _
    c.give_count.ensures
