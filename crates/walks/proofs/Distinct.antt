-- A list in which each entry counts once has nothing twice.
-- Assumes nothing.
use mathlib.Core.Path.{refl, subst}
use mathlib.Core.Bool.{Bool, cond}
use mathlib.Core.List.{List, [], ◌∷◌, Memᴰ}
use Prim.Native.Nat.{ℕ, ◌+◌, ◌≤◌}
use native.Mathlib.Omega.{arith}
use lib.Dec.{eqb}
use borrow.Author.Tests.{eq-eqb}
use Rattle.words.specs.Lists.{count_of}
use Rattle.laws.proofs.Basics.{mem-count}
use Rattle.laws.proofs.Wf.{Distinct}

pub count-distinct : (l : List ℕ) → ((x : ℕ) → Memᴰ x l → count_of (eqb x) l ≤ 1) → Distinct l
count-distinct [] h = tt
count-distinct (y ∷ l) h = (fresh, count-distinct l (λ x m. let k = h x (Memᴰ.tail m) in omega arith))
  where
    fresh : Memᴰ y l → ⊥
    fresh m =
        let k = subst (λ (t : Bool). cond t 1 0 + count_of (eqb y) l ≤ 1) (eq-eqb y y refl) (h y (Memᴰ.head refl)) in
        omega (arith, mem-count y l m)
