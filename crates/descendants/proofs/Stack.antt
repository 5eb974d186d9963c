-- What is still to be listed behind a node of the walk, as the source's stack holds it.
-- Assumes nothing.
use Rattle.std.specs.Prelude.{Some}
use mathlib.Core.Path.{◌≡◌}
use mathlib.Core.Logic.{◌≢◌}
use mathlib.Core.Bool.{true}
use mathlib.Core.List.{List, [], ◌++◌}
use Prim.Native.Nat.{ℕ}
use native.Mathlib.Omega.{arith}
use Rattle.model.specs.Kinds.{children}
use Rattle.model.specs.Tree.{Tree}
use Rattle.laws.proofs.Wf.{Ends, WF}
use Rattle.laws.proofs.Climb.{Below, steps_up, steps-unique, below_steps}
use Rattle.descendants.proofs.Hints.{behind}

module _ (t : Tree) (z : ℕ) where
  -- the siblings behind y and behind each node above it, up to z
  unfoldable pub up : {y : ℕ} → Below t.parent z y → List ℕ
  up (Below.here e) = []
  up {y} (Below.down p e r) = behind y (t.lists children p) ++ up r

-- a node below z is another
pub strict : {t : Tree} → WF t → (z x p : ℕ) → t.live z ≡ true → t.live p ≡ true → t.parent x ≡ Some p → Below t.parent z p → x ≢ z
strict {t} W z x p lz lp e r q =
    let rz = W.ends z lz in
    let rp = W.ends p lp in
    let h = below_steps r rz rp in
    let u = steps_up p x rp e in
    let v = steps-unique (Ends.up p e rp) rz q in
    omega arith
