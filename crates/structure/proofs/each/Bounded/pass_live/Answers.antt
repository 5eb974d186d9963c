-- `structure::each::Bounded::pass_live` meets its contract.
-- Assumes nothing.
use Rattle.structure.proofs.Turns.{owner-refused, fields-refused, slot-claimed}
use Rattle.structure.proofs.each.Bounded.pass_live.Goals as goal

pub returns-then-not-owner_holds : goal.returns-then-not-owner_holds
returns-then-not-owner_holds c =
    let v = c.args.self.now.nodes.view in
    owner-refused v.document v.words.now c.args.s c.args.scratch.now _ c.owner_holds.ensures c.if-not-owner_holds.true

pub returns-else-count_fields : goal.returns-else-count_fields
returns-else-count_fields c =
    let v = c.args.self.now.nodes.view in
    rw c.if-count_fields.false (fields-refused v.document v.words.now c.args.s c.args.scratch.now _ c.owner_holds.ensures c.if-not-owner_holds.false _ _ c.count_fields.ensures c.if-count_fields.false)

pub returns-then-count_fields : goal.returns-then-count_fields
returns-then-count_fields c =
    let v = c.args.self.now.nodes.view in
    slot-claimed v.document v.words.now c.args.s c.args.scratch.now _ c.owner_holds.ensures c.if-not-owner_holds.false _ _ c.count_fields.ensures c.if-count_fields.true _ _ c.claim_lists.ensures
