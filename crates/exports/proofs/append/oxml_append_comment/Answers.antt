-- `exports::append::oxml_append_comment` meets its contract.
-- Assumes nothing.
use lib.ListN.{length}
use Prim.Native.Nat.{ℕ}
use Rattle.model.specs.Calls.{append-comment}
use Rattle.exports.specs.Contract.{as_made}
use Rattle.encoding.proofs.Records.{whole}
use Rattle.exports.proofs.Exporting.{by_word, too_short, makes}
use Rattle.exports.proofs.append.oxml_append_comment.Goals as goal

pub give_made-requires : goal.give_made-requires
give_made-requires c =
    let l = whole c.args.document.now (length c.args.made.now) 1 _ _ c.lent_record.ensures c.in-Some.is in
    (l.words, l.enough)

pub returns-in_default : goal.returns-in_default
returns-in_default c =
    rw c.refused.ensures (too_short (append-comment c.args.parent c.args.text.now) 1 as_made c.args.document.now c.args.memory.now c.args.scratch.now c.args.made.now _ c.lent_record.ensures c.in_default.is)

pub returns : goal.returns
returns c =
    makes (append-comment c.args.parent c.args.text.now) c.args.document.now c.args.memory.now c.args.scratch.now c.args.made.now c.in-Some.d (whole c.args.document.now (length c.args.made.now) 1 _ _ c.lent_record.ensures c.in-Some.is) _ _ _ _ _
    c.append_comment-answer.result
    (by_word (λ (h : ℕ). (append-comment h c.args.text.now)) c.args.parent _ c.from-id.ensures _ _ _ _ _ _ _ c.append_comment-answer.ensures)
    c.give_made.ensures.value c.give_made.ensures.document_after.0 c.give_made.ensures.document_after.1
