-- `exports::remove::oxml_remove_attribute` meets its contract.
-- Assumes nothing.
use lib.ListN.{length}
use Prim.Native.Nat.{ℕ}
use Rattle.model.specs.Calls.{remove-attribute}
use Rattle.exports.specs.Contract.{as_truth}
use Rattle.encoding.proofs.Records.{whole}
use Rattle.exports.proofs.Exporting.{by_word, too_short, finds}
use Rattle.exports.proofs.remove.oxml_remove_attribute.Goals as goal

pub give_found-requires : goal.give_found-requires
give_found-requires c =
    let l = whole c.args.document.now (length c.args.found.now) 1 _ _ c.lent_record.ensures c.in-Some.is in
    (l.words, l.enough)

pub returns-in_default : goal.returns-in_default
returns-in_default c =
    rw c.refused.ensures (too_short (remove-attribute c.args.element c.args.namespace.now c.args.local.now) 1 as_truth c.args.document.now c.args.memory.now c.args.scratch.now c.args.found.now _ c.lent_record.ensures c.in_default.is)

pub returns : goal.returns
returns c =
    finds (remove-attribute c.args.element c.args.namespace.now c.args.local.now) c.args.document.now c.args.memory.now c.args.scratch.now c.args.found.now c.in-Some.d (whole c.args.document.now (length c.args.found.now) 1 _ _ c.lent_record.ensures c.in-Some.is) _ _ _ _ _
    c.remove_attribute-answer.result
    (by_word (λ (h : ℕ). (remove-attribute h c.args.namespace.now c.args.local.now)) c.args.element _ c.from-id.ensures _ _ _ _ _ _ _ c.remove_attribute-answer.ensures)
    c.give_found.ensures.value c.give_found.ensures.document_after.0 c.give_found.ensures.document_after.1
