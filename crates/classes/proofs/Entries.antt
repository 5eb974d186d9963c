-- The rule of a table, carried to every entry by one test that is computed over the whole table.
-- Assumes nothing.
use mathlib.Core.Path.{◌≡◌, ap, ◌∙◌}
use mathlib.Core.List.{List, [], ◌∷◌}
use Prim.Native.Nat.{ℕ, zero, suc, ◌+◌, ◌<◌}
use native.Mathlib.Nat.{zero-add}
use native.Mathlib.Omega.{arith}
use lib.ListN.{get_or}

-- f i, f (i + 1), .., n of them: a table of the length n obeys f where it is this list, which is computed entry by entry
abbrev pub entries : (ℕ → ℕ) → ℕ → ℕ → List ℕ
entries f i zero = []
entries f i (suc n) = f i ∷ entries f (suc i) n

from : (f : ℕ → ℕ) (i n k : ℕ) → k < n → get_or (entries f i n) k 0 ≡ f (i + k)
from f i zero k h = absurd (omega arith)
from f i (suc n) zero h = ap f (omega arith)
from f i (suc n) (suc k) h = from f (suc i) n k (omega arith) ∙ ap f (omega arith)

pub obeyed : (f : ℕ → ℕ) (n k : ℕ) → k < n → get_or (entries f 0 n) k 0 ≡ f k
obeyed f n k h = from f 0 n k h ∙ ap f (zero-add k)
