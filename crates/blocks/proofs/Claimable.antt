-- What the code of a claim decides.
-- Assumes nothing.
use mathlib.Core.Path.{◌≡◌, refl, sym, ap, ◌∙◌}
use mathlib.Core.Bool.{Bool, true, false, false≢true}
use mathlib.Core.List.{List}
use Prim.Native.Nat.{ℕ, ◌+◌, ◌≤◌, ◌<◌}
use native.Mathlib.Decide.{dec_le}
use native.Mathlib.Omega.{arith}
use lib.ListN.{length, drop, replicate}
use lib.Dec.{eqb}
use borrow.Author.Tests.{le-leb, lt-leb}
use Rattle.words.specs.Parts.{part, put}
use Rattle.words.specs.Lists.{all}
use Rattle.blocks.specs.Arena.{block, arena_of, capacity_of}
use Rattle.blocks.specs.Claims.{claimable, claimed, block_claimable, block_claimed}
use Rattle.blocks.proofs.Capacities.{capacity-least}

module _ (m : List ℕ) (s n : ℕ) where
  pub claimable-within : s + n ≤ length m → (t : Bool) → t ≡ all (eqb 0) (part s n m) → t ≡ claimable m s n
  unfolding claimable
  claimable-within h t e = rw (le-leb (s + n) (length m) h) e

  pub claimable-beyond : length m < s + n → false ≡ claimable m s n
  unfolding claimable
  claimable-beyond h = sym (rw (lt-leb (s + n) (length m) h))

  pub claimable-fits : claimable m s n ≡ true → s + n ≤ length m
  unfolding claimable
  claimable-fits e = go (dec_le (s + n) (length m))
    where
      go : Dec (s + n ≤ length m) → s + n ≤ length m
      go (yes h) = h
      go (no h) = absurd (false≢true (sym (rw (lt-leb (s + n) (length m) (omega arith))) ∙ e))

  pub claimable-clear : claimable m s n ≡ true → all (eqb 0) (part s n m) ≡ true
  claimable-clear e = claimable-within (claimable-fits e) (all (eqb 0) (part s n m)) refl ∙ e

  pub claimed-met : claimable m s n ≡ true → claimed m s n ≡ put s (replicate n 1) m
  unfolding claimed
  claimed-met e = rw e

  pub claimed-refused : claimable m s n ≡ false → claimed m s n ≡ m
  unfolding claimed
  claimed-refused e = rw e

  pub claim-met : (t : Bool) (m' : List ℕ) → t ≡ claimable m s n → t ≡ true → m' ≡ put s (replicate n 1) m → (true ≡ claimable m s n) × (m' ≡ claimed m s n)
  claim-met t m' e q h = (sym q ∙ e, h ∙ sym (claimed-met (sym e ∙ q)))

  pub claim-refused : (t : Bool) → t ≡ claimable m s n → t ≡ false → (false ≡ claimable m s n) × (m ≡ claimed m s n)
  claim-refused t e q = (sym q ∙ e, sym (claimed-refused (sym e ∙ q)))

  pub claim-fits : (t : Bool) → t ≡ claimable m s n → t ≡ true → s + n ≤ length m
  claim-fits t e q = claimable-fits (sym e ∙ q)

-- a block that does not lie within the marks, whatever the length in use
pub block-beyond : (w m : List ℕ) (limit s n : ℕ) → length m ≤ limit → limit < s + n
    → ((used : ℕ) → false ≡ block_claimable (arena_of limit used w) m (block s n)) × ((used : ℕ) → m ≡ block_claimed (arena_of limit used w) m (block s n))
block-beyond w m limit s n f h =
    let e : false ≡ claimable m s (capacity_of (drop limit w) (block s n)) =
    claimable-beyond m s (capacity_of (drop limit w) (block s n)) (omega (arith, capacity-least (drop limit w) (block s n))) in
    (λ used. e, λ used. sym (claimed-refused m s (capacity_of (drop limit w) (block s n)) (sym e)))

-- and one whose capacity was read
pub block-claim : (w m m' : List ℕ) (limit s n cap : ℕ) (t : Bool) → cap ≡ capacity_of (drop limit w) (block s n) → (t ≡ claimable m s cap) × (m' ≡ claimed m s cap)
    → ((used : ℕ) → t ≡ block_claimable (arena_of limit used w) m (block s n)) × ((used : ℕ) → m' ≡ block_claimed (arena_of limit used w) m (block s n))
block-claim w m m' limit s n cap t e q = (λ used. q.0 ∙ ap (claimable m s) e, λ used. q.1 ∙ ap (claimed m s) e)
