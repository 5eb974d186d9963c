-- `blocks::marks::claim` meets its contract.
-- Assumes nothing.
use Rattle.blocks.proofs.Claimable.{claim-fits, claim-met, claim-refused}
use Rattle.blocks.proofs.marks.claim.Goals as goal

pub fill-requires : goal.fill-requires
fill-requires c = claim-fits _ _ _ _ c.unclaimed.ensures c.if-unclaimed.true

pub returns-then-unclaimed : goal.returns-then-unclaimed
returns-then-unclaimed c = let q = claim-met _ _ _ _ _ c.unclaimed.ensures c.if-unclaimed.true c.fill.ensures in
    record { value = q.0; marks_after = q.1 }

pub returns : goal.returns
returns c = let q = claim-refused _ _ _ _ c.unclaimed.ensures c.if-unclaimed.false in
    record { value = q.0; marks_after = q.1 }
