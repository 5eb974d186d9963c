-- The sums of `layout::arena_at` fit.
-- Assumes nothing.
use native.Mathlib.Omega.{arith}
use Rattle.layout.proofs.Sizes.{regions_small}
use Rattle.layout.proofs.arena_at.Goals as goal

pub overflow_mul-slots : goal.overflow_mul-slots
overflow_mul-slots c = omega (arith, regions_small _ c.requires)

pub overflow_mul-result : goal.overflow_mul-result
overflow_mul-result c = omega (arith, regions_small _ c.requires)

pub overflow_add-result : goal.overflow_add-result
overflow_add-result c = omega (arith, regions_small _ c.requires)

pub overflow_mul-result-in-Namespaces : goal.overflow_mul-result-in-Namespaces
overflow_mul-result-in-Namespaces c = omega (arith, regions_small _ c.requires)

pub overflow_add-result-in-Namespaces : goal.overflow_add-result-in-Namespaces
overflow_add-result-in-Namespaces c = omega (arith, regions_small _ c.requires)

pub overflow_mul-result-in-Namespaces-2 : goal.overflow_mul-result-in-Namespaces-2
overflow_mul-result-in-Namespaces-2 c = omega (arith, regions_small _ c.requires)

pub overflow_add-result-in-Namespaces-2 : goal.overflow_add-result-in-Namespaces-2
overflow_add-result-in-Namespaces-2 c = omega (arith, regions_small _ c.requires)
