-- The product of `layout::slots_range` fits.
-- Assumes nothing.
use native.Mathlib.Omega.{arith}
use Rattle.layout.proofs.Sizes.{limits-fit}
use Rattle.layout.proofs.slots_range.Goals as goal

pub overflow_mul-result : goal.overflow_mul-result
overflow_mul-result c = omega (arith, (limits-fit _ c.requires).nodes)
