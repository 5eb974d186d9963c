-- Laws of `index_of`: the first entry that passes a test.
-- Assumes nothing.
use mathlib.Core.Path.{◌≡◌, refl, ap}
use mathlib.Core.Bool.{Bool, true, false, cond}
use mathlib.Core.List.{List, [], ◌∷◌, ◌++◌}
use Prim.Native.Nat.{ℕ, zero, suc, ◌+◌, ◌≤◌, ◌<◌}
use native.Mathlib.Omega.{arith}
use lib.ListN.{length, get_or}
use Rattle.words.specs.Lists.{index_of}

module _ {A : Type 0} (p : A → Bool) where
  -- the entry at the index passes, and none before it does
  pub index_of-passes : (l : List A) (d : A) → index_of p l < length l → p (get_or l (index_of p l) d) ≡ true
  index_of-passes [] d h = absurd (omega arith)
  index_of-passes (x ∷ l) d h = go (p x) refl h (index_of-passes l d)
    where
      go : (t : Bool) → p x ≡ t → cond t 0 (suc (index_of p l)) < suc (length l) → (index_of p l < length l → p (get_or l (index_of p l) d) ≡ true)
          → p (get_or (x ∷ l) (cond t 0 (suc (index_of p l))) d) ≡ true
      go true e k ih = e
      go false e k ih = ih (omega arith)

  pub index_of-first : (l : List A) (d : A) (i : ℕ) → i < index_of p l → p (get_or l i d) ≡ false
  index_of-first [] d i h = absurd (omega arith)
  index_of-first (x ∷ l) d i h = go (p x) refl i h (λ k. index_of-first l d k)
    where
      go : (t : Bool) → p x ≡ t → (i : ℕ) → i < cond t 0 (suc (index_of p l)) → ((k : ℕ) → k < index_of p l → p (get_or l k d) ≡ false) → p (get_or (x ∷ l) i d) ≡ false
      go true e i k ih = absurd (omega arith)
      go false e zero k ih = e
      go false e (suc i) k ih = ih i (omega arith)

  -- in a list that is joined of two
  pub index_of-left : (l m : List A) → index_of p l < length l → index_of p (l ++ m) ≡ index_of p l
  index_of-left [] m h = absurd (omega arith)
  index_of-left (x ∷ l) m h = go (p x) h (index_of-left l m)
    where
      go : (t : Bool) → cond t 0 (suc (index_of p l)) < suc (length l) → (index_of p l < length l → index_of p (l ++ m) ≡ index_of p l)
          → cond t 0 (suc (index_of p (l ++ m))) ≡ cond t 0 (suc (index_of p l))
      go true k ih = refl
      go false k ih = ap suc (ih (omega arith))

  pub index_of-right : (l m : List A) → length l ≤ index_of p l → index_of p (l ++ m) ≡ length l + index_of p m
  index_of-right [] m h = omega arith
  index_of-right (x ∷ l) m h = go (p x) h (index_of-right l m)
    where
      go : (t : Bool) → suc (length l) ≤ cond t 0 (suc (index_of p l)) → (length l ≤ index_of p l → index_of p (l ++ m) ≡ length l + index_of p m)
          → cond t 0 (suc (index_of p (l ++ m))) ≡ suc (length l) + index_of p m
      go true k ih = absurd (omega arith)
      go false k ih = omega (arith, ih (omega arith))
