-- Of an interval that lies in a range, every number is within it, and of one that does not meet it none.
-- Assumes nothing.
use mathlib.Core.Path.{◌≡◌}
use mathlib.Core.Bool.{Bool, true, false, ◌&&◌, ◌||◌, and-false, false≢true}
use Prim.Native.Nat.{ℕ, ◌≤◌, ◌<◌}
use native.Mathlib.Omega.{arith}
use lib.Dec.{leb, ltb}
use borrow.Author.Tests.{leb-true, ltb-true, le-leb, lt-leb}
use Rattle.chars.specs.Productions.{within}

module _ (a b c : ℕ) (low : a ≤ c) (high : c ≤ b) where
  pub inside : (x y : ℕ) (s t : Bool) → leb x a ≡ s → leb b y ≡ t → (s && t) ≡ true → within c (x, y) ≡ true
  unfolding within
  inside x y true true p q h =
      let f : x ≤ a = leb-true x a p in
      let g : b ≤ y = leb-true b y q in
      rw (le-leb x c (omega arith), le-leb c y (omega arith))
  inside x y true false p q h = absurd (false≢true h)
  inside x y false t p q h = absurd (false≢true h)

  pub outside : (x y : ℕ) (s t : Bool) → ltb b x ≡ s → ltb y a ≡ t → (s || t) ≡ true → within c (x, y) ≡ false
  unfolding within
  outside x y true t p q h =
      let f : b < x = ltb-true b x p in
      rw (lt-leb x c (omega arith))
  outside x y false true p q h =
      let f : y < a = ltb-true y a q in
      rw (lt-leb c y (omega arith)) (and-false (leb x c))
  outside x y false false p q h = absurd (false≢true h)
