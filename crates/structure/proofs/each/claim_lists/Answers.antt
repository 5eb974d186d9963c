-- `structure::each::claim_lists` meets its contract.
-- Assumes nothing.
use Rattle.structure.proofs.Turns.{children-refused, attributes-refused, all-claimed}
use Rattle.structure.proofs.each.claim_lists.Goals as goal

pub returns-then-not-claim : goal.returns-then-not-claim
returns-then-not-claim c =
    let v = c.args.view.now in
    children-refused v.document v.words.now c.args.s _ _ _ c.claim.ensures c.if-not-claim.true

pub returns-else-claim : goal.returns-else-claim
returns-else-claim c =
    let v = c.args.view.now in
    rw c.if-claim.false (attributes-refused v.document v.words.now c.args.s _ _ _ c.claim.ensures c.if-not-claim.false c.requires.0 c.claim.auto.scratch _ _ c.claim-2.ensures c.if-claim.false)

pub returns-then-claim : goal.returns-then-claim
returns-then-claim c =
    let v = c.args.view.now in
    all-claimed v.document v.words.now c.args.s _ _ _ c.claim.ensures c.if-not-claim.false c.requires.0 c.claim.auto.scratch _ _ c.claim-2.ensures c.if-claim.true c.claim-2.auto.scratch _ _ c.claim-then-claim.ensures
