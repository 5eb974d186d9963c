-- `exports::change::oxml_set_attribute` meets its contract.
-- Assumes nothing.
use mathlib.Core.List.{[]}
use Prim.Native.Nat.{ℕ}
use Rattle.model.specs.Calls.{set-attribute}
use Rattle.exports.specs.Contract.{as_done}
use Rattle.encoding.proofs.Records.{whole}
use Rattle.exports.proofs.Exporting.{by_word, too_short, does}
use Rattle.exports.proofs.change.oxml_set_attribute.Goals as goal

pub give_done-requires : goal.give_done-requires
give_done-requires c =
    (whole c.args.document.now 0 0 _ _ c.lent_record.ensures c.in-Some.is).words

pub returns-in_default : goal.returns-in_default
returns-in_default c =
    rw c.refused.ensures (too_short (set-attribute c.args.element c.args.namespace.now c.args.local.now c.args.value.now) 0 as_done c.args.document.now c.args.memory.now c.args.scratch.now [] _ c.lent_record.ensures c.in_default.is)

pub returns : goal.returns
returns c =
    does (set-attribute c.args.element c.args.namespace.now c.args.local.now c.args.value.now) c.args.document.now c.args.memory.now c.args.scratch.now c.in-Some.d (whole c.args.document.now 0 0 _ _ c.lent_record.ensures c.in-Some.is) _ _ _ _
    c.set_attribute-answer.result
    (by_word (λ (h : ℕ). (set-attribute h c.args.namespace.now c.args.local.now c.args.value.now)) c.args.element _ c.from-id.ensures _ _ _ _ _ _ _ c.set_attribute-answer.ensures)
    c.give_done.ensures.value c.give_done.ensures.document_after
