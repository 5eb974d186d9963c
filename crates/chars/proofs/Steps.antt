-- Laws of one step of decoding.
-- Assumes nothing.
use mathlib.Core.Path.{◌≡◌, refl, sym, ◌∙◌}
use mathlib.Core.Bool.{Bool, true, false, ◌&&◌, ◌||◌, cond, false≢true}
use mathlib.Core.List.{List, [], ◌∷◌}
use Prim.Native.Nat.{ℕ, zero, suc, ◌+◌, ◌≤◌}
use lib.Dec.{leb, ltb}
use lib.ListN.{get_or}
use borrow.Author.Tests.{leb-true}
use Rattle.std.specs.Prelude.{None}
use Rattle.chars.specs.Productions.{within}
use Rattle.chars.specs.Utf8.{Step, select, rows, step, step_at}
use Rattle.chars.proofs.Ranges.{inside, outside}

-- what a test of a range tells
low : (x a b : ℕ) → within x (a, b) ≡ true → a ≤ x
unfolding within
low x a b = go (leb a x) refl
  where
    go : (s : Bool) → leb a x ≡ s → (s && leb x b) ≡ true → a ≤ x
    go true p h = leb-true a x p
    go false p h = absurd (false≢true h)

high : (x a b : ℕ) → within x (a, b) ≡ true → x ≤ b
unfolding within
high x a b = go (leb a x) refl
  where
    go : (s : Bool) → leb a x ≡ s → (s && leb x b) ≡ true → x ≤ b
    go true p h = leb-true x b h
    go false p h = absurd (false≢true h)

pub bounds : (x a b : ℕ) (s : Bool) → s ≡ within x (a, b) → s ≡ true → (a ≤ x) × (x ≤ b)
bounds x a b s e y = (low x a b (sym e ∙ y), high x a b (sym e ∙ y))

-- ---- the row of the first byte

-- an interval of the first byte lies in the range of row k and meets none of the ranges before
abbrev pub stands : ℕ → ℕ → ℕ → List ((ℕ × ℕ) × Step) → Bool
stands x y k [] = true
stands x y zero (row ∷ rs) = leb row.0.0 x && leb y row.0.1
stands x y (suc k) (row ∷ rs) = (ltb y row.0.0 || ltb row.0.1 x) && stands x y k rs

abbrev pub row_step : ℕ → List ((ℕ × ℕ) × Step) → Step
row_step k [] = None
row_step zero (row ∷ rs) = row.1
row_step (suc k) (row ∷ rs) = row_step k rs

selected : (x y a : ℕ) → x ≤ a → a ≤ y → (k : ℕ) (rs : List ((ℕ × ℕ) × Step)) → stands x y k rs ≡ true → select rs a ≡ row_step k rs
selected x y a l h k [] e = refl
selected x y a l h zero (row ∷ rs) e = rw (inside x y a l h row.0.0 row.0.1 (leb row.0.0 x) (leb y row.0.1) refl refl e)
selected x y a l h (suc k) (row ∷ rs) e = go (ltb y row.0.0 || ltb row.0.1 x) refl e (λ q. selected x y a l h k rs q)
  where
    go : (s : Bool) → (ltb y row.0.0 || ltb row.0.1 x) ≡ s → (s && stands x y k rs) ≡ true
        → (stands x y k rs ≡ true → select rs a ≡ row_step k rs)
        → cond (within a row.0) row.1 (select rs a) ≡ row_step k rs
    go true p f ih = rw (outside x y a l h row.0.0 row.0.1 (ltb y row.0.0) (ltb row.0.1 x) refl refl p) (ih f)
    go false p f ih = absurd (false≢true f)

pub by_row : (x y k a b c d : ℕ) (r : Step) → x ≤ a → a ≤ y → stands x y k (rows a b c d) ≡ true → r ≡ row_step k (rows a b c d) → r ≡ step a b c d
unfolding step
by_row x y k a b c d r l h e q = q ∙ sym (selected x y a l h k (rows a b c d) e)

pub step-there : (l : List ℕ) (i a b c d : ℕ) (r : Step) → a ≡ get_or l i 0 → b ≡ get_or l (i + 1) 0 → c ≡ get_or l (i + 2) 0 → d ≡ get_or l (i + 3) 0
    → r ≡ step a b c d → r ≡ step_at l i
unfolding step_at
step-there l i a b c d r ea eb ec ed e = rw (sym ea, sym eb, sym ec, sym ed) e
