-- `exports::walk::oxml_walk_next` meets its contract.
-- Assumes nothing.
use native.Mathlib.Omega.{arith}
use lib.ListN.{length}
use Rattle.encoding.proofs.Records.{whole}
use Rattle.exports.proofs.Walks.{next-few, next-short, next-given}
use Rattle.exports.proofs.walk.oxml_walk_next.Goals as goal

pub returns-then-answer-lt2 : goal.returns-then-answer-lt2
returns-then-answer-lt2 c =
    rw c.refused.ensures (next-few c.args.document.now c.args.memory.now c.args.position.now c.args.answer.now (omega arith))

pub position_of-at-requires : goal.position_of-at-requires
position_of-at-requires c =
    (whole c.args.document.now (length c.args.position.now) 7 _ _ c.lent_record.ensures c.in-Some.is).enough

pub give_next-requires : goal.give_next-requires
give_next-requires c =
    ((whole c.args.document.now (length c.args.position.now) 7 _ _ c.lent_record.ensures c.in-Some.is).enough, omega arith)

pub returns-in_default : goal.returns-in_default
returns-in_default c =
    rw c.refused-in_default.ensures (next-short c.args.document.now c.args.memory.now c.args.position.now c.args.answer.now _ c.lent_record.ensures c.in_default.is)

pub returns : goal.returns
returns c =
    next-given c.args.document.now c.args.memory.now c.args.position.now c.args.answer.now c.in-Some.d
    (whole c.args.document.now (length c.args.position.now) 7 _ _ c.lent_record.ensures c.in-Some.is) (omega arith) _ c.position_of-at.ensures _ c.next_held-found.ensures _ _ _
    c.give_next.ensures
