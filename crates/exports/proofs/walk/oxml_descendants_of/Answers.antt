-- `exports::walk::oxml_descendants_of` meets its contract.
-- Assumes nothing.
use lib.ListN.{length}
use Rattle.encoding.proofs.Records.{whole}
use Rattle.exports.proofs.Walks.{start-short, start-given}
use Rattle.exports.proofs.walk.oxml_descendants_of.Goals as goal

pub give_start-requires : goal.give_start-requires
give_start-requires c =
    (whole c.args.document.now (length c.args.position.now) 7 _ _ c.lent_record.ensures c.in-Some.is).enough

pub returns-in_default : goal.returns-in_default
returns-in_default c =
    rw c.refused.ensures (start-short c.args.zone c.args.document.now c.args.memory.now c.args.position.now _ c.lent_record.ensures c.in_default.is)

pub returns : goal.returns
returns c =
    start-given c.args.zone c.args.document.now c.args.memory.now c.args.position.now c.in-Some.d
    (whole c.args.document.now (length c.args.position.now) 7 _ _ c.lent_record.ensures c.in-Some.is) _ c.from-id.ensures _ c.descendants_of-answer.ensures _ _
    c.give_start.ensures
