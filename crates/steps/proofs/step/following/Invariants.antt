use mathlib.Core.Path.{◌≡◌}
use mathlib.Core.Bool.{true}
use Prim.Native.Nat.{◌-◌}
use Rattle.model.specs.Doc.{resolves}
use Rattle.memory.specs.Decode.{slots_made}
use Rattle.memory.specs.View.{decoded}
use Rattle.steps.specs.Next.{following}
use Rattle.steps.proofs.step.following.Given as goal

abbrev pub invariant-loop : goal.invariant-loop
invariant-loop l = (following (slots_made l.view.document) (slots_made l.view.document) (decoded l.view) l.at l.from ≡ following (l.made - l.counter) l.room (decoded l.view) l.at l.word) × (resolves (decoded l.view) l.word ≡ true)
