-- `exports::order::oxml_document_order` meets its contract.
-- Assumes nothing.
use mathlib.Core.List.{[]}
use Rattle.model.specs.Calls.{document-order}
use Rattle.exports.specs.Contract.{as_order}
use Rattle.encoding.proofs.Records.{whole}
use Rattle.exports.proofs.Exporting.{too_short, orders}
use Rattle.exports.proofs.order.oxml_document_order.Goals as goal

pub give_done-requires : goal.give_done-requires
give_done-requires c =
    (whole c.args.document.now 0 0 _ _ c.lent_record.ensures c.in-Some.is).words

pub returns-in_default : goal.returns-in_default
returns-in_default c =
    rw c.refused.ensures (too_short document-order 0 as_order c.args.document.now c.args.memory.now c.args.scratch.now [] _ c.lent_record.ensures c.in_default.is)

pub returns : goal.returns
returns c =
    orders document-order c.args.document.now c.args.memory.now c.args.scratch.now c.in-Some.d (whole c.args.document.now 0 0 _ _ c.lent_record.ensures c.in-Some.is) _ _ _ _
    c.document_order-answer.result
    c.document_order-answer.ensures
    c.give_done.ensures.value c.give_done.ensures.document_after
