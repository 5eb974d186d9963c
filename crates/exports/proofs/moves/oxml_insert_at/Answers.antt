-- `exports::moves::oxml_insert_at` meets its contract.
-- Assumes nothing.
use Rattle.records.specs.Handles.{word_of}
use mathlib.Core.List.{[]}
use Prim.Native.Nat.{ℕ}
use Rattle.model.specs.Calls.{insert-at}
use Rattle.exports.specs.Contract.{as_done}
use Rattle.encoding.proofs.Records.{whole}
use Rattle.exports.proofs.Exporting.{by_word, too_short, does}
use Rattle.exports.proofs.moves.oxml_insert_at.Goals as goal

pub give_done-requires : goal.give_done-requires
give_done-requires c =
    (whole c.args.document.now 0 0 _ _ c.lent_record.ensures c.in-Some.is).words

pub returns-in_default : goal.returns-in_default
returns-in_default c =
    rw c.refused.ensures (too_short (insert-at c.args.parent c.args.at c.args.child) 0 as_done c.args.document.now c.args.memory.now c.args.scratch.now [] _ c.lent_record.ensures c.in_default.is)

pub returns : goal.returns
returns c =
    does (insert-at c.args.parent c.args.at c.args.child) c.args.document.now c.args.memory.now c.args.scratch.now c.in-Some.d (whole c.args.document.now 0 0 _ _ c.lent_record.ensures c.in-Some.is) _ _ _ _
    c.insert_at-answer.result
    (by_word (λ (h : ℕ). (insert-at c.args.parent c.args.at h)) c.args.child _ c.from-child_id.ensures _ _ _ _ _ _ _ (by_word (λ (h : ℕ). (insert-at h c.args.at (word_of c.from-child_id.result))) c.args.parent _ c.from-parent_id.ensures _ _ _ _ _ _ _ c.insert_at-answer.ensures))
    c.give_done.ensures.value c.give_done.ensures.document_after
