-- When a call on the document and a step of the plain tree match.
-- Assumes nothing.
use mathlib.Core.Path.{◌≡◌}
use mathlib.Core.Logic.{◌⊎◌}
use mathlib.Core.Bool.{true}
use Prim.Native.Nat.{ℕ}
use Rattle.model.specs.Doc.{Doc}
use Rattle.model.specs.Calls.{Call}
use Rattle.model.specs.Calls as calls
use Rattle.model.specs.Tree.{Tree}
use Rattle.model.specs.Tree as tree
use Rattle.laws.specs.Claim.{Agrees, no_step}
use Rattle.laws.proofs.Wf.{WF}
use Rattle.laws.proofs.Sim.{Sim}

-- the call was refused 14 and changed nothing, or both sides made the same step
abbrev pub Matches : (ℕ → ℕ) → Call → Doc → calls.Out → tree.Out → Type 0
Matches hs c d o u = ((no_step o.answer ≡ true) × (o.doc ≡ d)) ⊎ (Sim o.doc u.tree hs × WF u.tree × Agrees hs c o u)
