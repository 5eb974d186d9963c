-- `structure::arenas::claim` meets its contract.
-- Assumes nothing.
use mathlib.Core.Path.{refl, ◌∙◌}
use native.Mathlib.Omega.{arith}
use Rattle.blocks.specs.Arena.{arena_of}
use Rattle.layout.specs.Layout.{which_of, limits_of}
use Rattle.memory.specs.Decode.{arena_part}
use Rattle.structure.specs.Scratch.{marks_at}
use Rattle.structure.proofs.Claimed.{marks_inside, claim-empty, claim-lent, claim-read}
use Rattle.structure.proofs.arenas.claim.Goals as goal

pub returns-then-block-eq0 : goal.returns-then-block-eq0
returns-then-block-eq0 c =
    let v = c.args.view.now in
    let w = which_of c.args.arena in
    let m = c.args.scratch.now in
    let l = limits_of v.document.limits in
    let u = c.arena_used-used in
    claim-read v.document v.words.now w c.args.s c.requires.1 _ (l.entries w) (marks_at l w) u.result refl refl refl u.ensures _ (c.block_in-block.ensures ∙ c.block_of.ensures) m m _
    (claim-empty (arena_of (l.entries w) u.result (arena_part v.document w v.words.now)) (marks_at l w) m (omega (arith, c.requires.0, marks_inside v.document w, u.ensures)) c.block_in-block.result c.if-block-eq0.true)

pub overflow_add-last : goal.overflow_add-last
overflow_add-last c =
    omega (arith, c.requires.0, marks_inside c.args.view.now.document (which_of c.args.arena), c.marks_at-at.ensures, c.arena_used-used.ensures)

pub returns : goal.returns
returns c =
    let v = c.args.view.now in
    let w = which_of c.args.arena in
    let q = c.claim_block in
    let a = c.arena_words.ensures in
    claim-read v.document v.words.now w c.args.s c.requires.1 _ _ _ _ a.0 a.1 c.marks_at-at.ensures c.arena_used-used.ensures _ (c.block_in-block.ensures ∙ c.block_of.ensures) _ _ _
    (claim-lent _ c.args.scratch.now _ _ c.marks_at-at.result c.arena_used-used.result c.block_in-block.result _ (omega (arith, c.requires.0, marks_inside v.document w, c.marks_at-at.ensures, c.arena_used-used.ensures)) q.auto.marks (q.ensures.by_index, q.ensures.by_index_2))
