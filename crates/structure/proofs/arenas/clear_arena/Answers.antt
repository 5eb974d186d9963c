-- `structure::arenas::clear_arena` meets its contract.
-- Assumes nothing.
use mathlib.Core.Path.{◌≡◌}
use borrow.Author.Rules.{rules}
use lib.ListN.{replicate}
use Rattle.structure.proofs.Claimed.{cleared_at}
use Rattle.structure.proofs.arenas.clear_arena.Goals as goal

pub returns : goal.returns
returns c =
    let e : c.fill.new.self ≡ replicate c.arena_used.result 0 = search rules in
    cleared_at _ _ _ _ c.args.scratch.now _ c.marks_at-at.ensures c.arena_used.ensures e
