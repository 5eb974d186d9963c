-- Laws of the capacity of a block.
-- Assumes nothing.
use mathlib.Core.Path.{◌≡◌, ◌∙◌}
use mathlib.Core.List.{List}
use Prim.Native.Nat.{ℕ, ◌+◌, ◌≤◌, ◌<◌, max}
use native.Mathlib.Decide.{ℕ_discrete}
use native.Mathlib.Omega.{arith}
use lib.ListN.{get_or}
use borrow.Author.Tests.{eq-eqb, ne_eqb}
use Rattle.blocks.specs.Arena.{Block, block, capacity_of}

module _ (caps : List ℕ) (b : Block) where
  pub capacity-empty : b.len ≡ 0 → capacity_of caps b ≡ 0
  capacity-empty e = rw (eq-eqb b.len 0 e)

  pub capacity-some : (b.len ≡ 0 → ⊥) → capacity_of caps b ≡ max b.len (get_or caps b.start 0)
  capacity-some h = rw (ne_eqb b.len 0 h)

  pub capacity-least : b.len ≤ capacity_of caps b
  capacity-least = go (ℕ_discrete b.len 0)
    where
      go : Dec (b.len ≡ 0) → b.len ≤ capacity_of caps b
      go (yes e) = omega arith
      go (no h) = omega (arith, capacity-some h)

  -- a block with spare capacity is not empty
  pub spare-some : b.len < capacity_of caps b → b.len ≡ 0 → ⊥
  spare-some h e = omega (arith, capacity-empty e)

-- one more id within the capacity leaves the capacity
pub capacity-grown : (caps : List ℕ) (s n : ℕ) → n < capacity_of caps (block s n) → capacity_of caps (block s (n + 1)) ≡ capacity_of caps (block s n)
capacity-grown caps s n h =
    capacity-some caps (block s (n + 1)) (λ e. omega arith)
    ∙ omega (arith, capacity-some caps (block s n) (spare-some caps (block s n) h))

-- a capacity depends on the record at the start alone
pub capacity-less : (u v : List ℕ) (b : Block) → get_or u b.start 0 ≤ get_or v b.start 0 → capacity_of u b ≤ capacity_of v b
capacity-less u v b h = go (ℕ_discrete b.len 0)
  where
    go : Dec (b.len ≡ 0) → capacity_of u b ≤ capacity_of v b
    go (yes e) = omega (arith, capacity-empty u b e)
    go (no g) = omega (arith, capacity-some u b g, capacity-some v b g)

pub capacity-same : (u v : List ℕ) (b : Block) → get_or u b.start 0 ≡ get_or v b.start 0 → capacity_of u b ≡ capacity_of v b
capacity-same u v b h = rw h
