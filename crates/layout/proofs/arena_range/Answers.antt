-- The sums of `layout::arena_range` fit.
-- Assumes nothing.
use native.Mathlib.Omega.{arith}
use Rattle.layout.specs.Layout.{which_of, limits_of}
use Rattle.layout.proofs.Sizes.{limits-fit, entries_fit, arena-inside, names-next, words-next, words-fit}
use Rattle.layout.proofs.arena_range.Goals as goal

pub overflow_mul-result : goal.overflow_mul-result
overflow_mul-result c = omega (arith, c.arena_limit.ensures, entries_fit _ (limits-fit _ c.requires) (which_of c.args.arena))

pub overflow_add-result : goal.overflow_add-result
overflow_add-result c =
    let l = limits_of c.args.l in
    omega (arith, c.arena_at-start.ensures, c.arena_limit.ensures, arena-inside l (which_of c.args.arena), names-next l, words-next l, words-fit l (limits-fit l c.requires))
