use mathlib.Core.Path.{◌≡◌}
use Prim.Native.Nat.{◌*◌, ◌≤◌}
use lib.Dec.{eqb}
use Rattle.words.specs.Lists.{all_below}
use Rattle.structure.proofs.CountsAndFields.{fits_in}
use Rattle.structure.proofs.fields.capacities_fit.Given as goal

abbrev pub invariant-loop-capacity : goal.invariant-loop-capacity
invariant-loop-capacity l = (l.upper ≤ l.capacity-index * 4294967296) × (eqb l.upper 0 ≡ all_below (fits_in l.capacity-items) l.capacity-index)
