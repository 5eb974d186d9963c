-- `exports::start::oxml_start` meets its contract.
-- Assumes nothing.
use Rattle.encoding.proofs.Records.{whole}
use Rattle.exports.proofs.Exporting.{start-short, starts}
use Rattle.exports.proofs.start.oxml_start.Goals as goal

pub give_done-requires : goal.give_done-requires
give_done-requires c =
    (whole c.args.document.now 0 0 _ _ c.lent_record.ensures c.in-Some.is).words

pub returns-in_default : goal.returns-in_default
returns-in_default c =
    rw c.refused.ensures (start-short c.args.document.now c.args.memory.now _ c.lent_record.ensures c.in_default.is)

pub returns : goal.returns
returns c =
    starts c.args.document.now c.args.memory.now c.in-Some.d (whole c.args.document.now 0 0 _ _ c.lent_record.ensures c.in-Some.is) _ _ _
    c.start-answer.result c.start-answer.ensures c.give_done.ensures.value c.give_done.ensures.document_after
