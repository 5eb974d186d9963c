use mathlib.Core.Path.{◌≡◌}
use Prim.Native.Nat.{◌-◌}
use lib.ListN.{length, drop}
use Rattle.chars.specs.declared.State.TheVariants.{Start}
use Rattle.chars.specs.Utf8.{decode}
use Rattle.chars.specs.Scan.{verdict_after}
use Rattle.scanning.proofs.scan.scan.Given as goal

abbrev pub invariant-loop-i : goal.invariant-loop-i
invariant-loop-i g l = let n = g.T.Unit.numbers l.s in verdict_after l.rule Start (decode n) ≡ verdict_after l.rule l.state (decode (drop l.i n))

abbrev pub decreases-loop-i : goal.decreases-loop-i
decreases-loop-i g l = length l.s - l.i
