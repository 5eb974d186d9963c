-- `exports::remove::oxml_detach` meets its contract.
-- Assumes nothing.
use mathlib.Core.List.{[]}
use Prim.Native.Nat.{ℕ}
use Rattle.model.specs.Calls.{detach}
use Rattle.exports.specs.Contract.{as_done}
use Rattle.encoding.proofs.Records.{whole}
use Rattle.exports.proofs.Exporting.{by_word, too_short, does}
use Rattle.exports.proofs.remove.oxml_detach.Goals as goal

pub give_done-requires : goal.give_done-requires
give_done-requires c =
    (whole c.args.document.now 0 0 _ _ c.lent_record.ensures c.in-Some.is).words

pub returns-in_default : goal.returns-in_default
returns-in_default c =
    rw c.refused.ensures (too_short (detach c.args.id) 0 as_done c.args.document.now c.args.memory.now c.args.scratch.now [] _ c.lent_record.ensures c.in_default.is)

pub returns : goal.returns
returns c =
    does (detach c.args.id) c.args.document.now c.args.memory.now c.args.scratch.now c.in-Some.d (whole c.args.document.now 0 0 _ _ c.lent_record.ensures c.in-Some.is) _ _ _ _
    c.detach-answer.result
    (by_word (λ (h : ℕ). (detach h)) c.args.id _ c.from-id.ensures _ _ _ _ _ _ _ c.detach-answer.ensures)
    c.give_done.ensures.value c.give_done.ensures.document_after
