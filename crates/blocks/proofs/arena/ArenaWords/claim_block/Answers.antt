-- `blocks::arena::ArenaWords::claim_block` meets its contract.
-- Assumes nothing.
use native.Mathlib.Omega.{arith}
use Rattle.blocks.proofs.Claimable.{block-beyond, block-claim}
use Rattle.blocks.proofs.arena.ArenaWords.claim_block.Goals as goal
use Rattle.blocks.proofs.arena.ArenaWords.claim_block.Goals.{then-self-block-via-then-self-block, then-self-block-via-else-self-block+then-self-block-2}

pub returns-then-self-block : goal.returns-then-self-block
returns-then-self-block c =
    let a = c.args in
    let q = block-beyond a.self.words.now a.marks.now a.self.limit a.block.start a.block.len c.requires (elim c.then-self-block.branch [ then-self-block-via-then-self-block w ↦ omega arith | then-self-block-via-else-self-block+then-self-block-2 w ↦ omega arith ]) in
    record { by_index = q.0; by_index_2 = q.1 }

pub returns : goal.returns
returns c =
    let a = c.args in
    let q = block-claim a.self.words.now a.marks.now _ a.self.limit a.block.start a.block.len _ _ c.capacity.ensures (c.claim.ensures.value, c.claim.ensures.marks_after) in
    record { by_index = q.0; by_index_2 = q.1 }
