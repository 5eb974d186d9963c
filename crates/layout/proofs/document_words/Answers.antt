-- The sums of `layout::document_words` fit.
-- Assumes nothing.
use native.Mathlib.Omega.{arith}
use Rattle.layout.specs.Layout.{texts_at, names_at}
use Rattle.layout.proofs.Sizes.{regions_small}
use Rattle.layout.proofs.document_words.Goals as goal

pub overflow_mul-result : goal.overflow_mul-result
unfolding texts_at names_at
overflow_mul-result c = omega (arith, regions_small _ c.requires)

pub overflow_add-result : goal.overflow_add-result
unfolding texts_at names_at
overflow_add-result c = omega (arith, regions_small _ c.requires)

pub overflow_add-result-2 : goal.overflow_add-result-2
unfolding texts_at names_at
overflow_add-result-2 c = omega (arith, regions_small _ c.requires)
