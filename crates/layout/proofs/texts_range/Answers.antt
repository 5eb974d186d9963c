-- The sums of `layout::texts_range` fit.
-- Assumes nothing.
use native.Mathlib.Omega.{arith}
use Rattle.layout.specs.Layout.{texts_at}
use Rattle.layout.proofs.Sizes.{regions_small}
use Rattle.layout.proofs.texts_range.Goals as goal

pub overflow_mul-result : goal.overflow_mul-result
overflow_mul-result c = omega (arith, regions_small _ c.requires)

pub overflow_add-result : goal.overflow_add-result
overflow_add-result c = omega (arith, regions_small _ c.requires)

pub overflow_add-result-2 : goal.overflow_add-result-2
unfolding texts_at
overflow_add-result-2 c = omega (arith, regions_small _ c.requires)
