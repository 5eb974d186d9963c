-- The sums of `layout::scratch_words` fit.
-- Assumes nothing.
use native.Mathlib.Omega.{arith}
use Rattle.layout.proofs.Sizes.{regions_small}
use Rattle.layout.proofs.scratch_words.Goals as goal

pub overflow_mul-result : goal.overflow_mul-result
overflow_mul-result c = omega (arith, regions_small _ c.requires)

pub overflow_add-result : goal.overflow_add-result
overflow_add-result c = omega (arith, regions_small _ c.requires)

pub overflow_add-result-2 : goal.overflow_add-result-2
overflow_add-result-2 c = omega (arith, regions_small _ c.requires)

pub overflow_add-result-3 : goal.overflow_add-result-3
overflow_add-result-3 c = omega (arith, regions_small _ c.requires)

pub overflow_add-result-4 : goal.overflow_add-result-4
overflow_add-result-4 c = omega (arith, regions_small _ c.requires)
