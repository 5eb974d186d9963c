-- Structure rule 5, and the promise of an edit: all that a layer above has to know of the arena.
use Rattle.std.specs.Prelude.{◌≡◌, cond, List, ℕ, ◌+◌, ◌≤◌, length, eqb}
use Rattle.blocks.specs.Arena.{Arena, Block, cap_of, list_of}

-- "Non-empty blocks with their capacities lie inside the arena .. An empty block's start is at most the arena's length": its capacity is 0
pub record Inside (a : Arena) (b : Block) : Type 0 where
  pub below : b.start + cap_of a b ≤ a.used

-- ".. and don't overlap": one of the two is empty, or ends with its capacity before the other
pub data Apart (a : Arena) (b c : Block) : Type 0 where
  empty_left : b.len ≡ 0 → Apart a b c
  empty_right : c.len ≡ 0 → Apart a b c
  before : b.start + cap_of a b ≤ c.start → Apart a b c
  behind : c.start + cap_of a c ≤ b.start → Apart a b c

-- a capacity word for each entry, and the length in use within the limit
pub record Shaped (a : Arena) : Type 0 where
  pub fits : a.used ≤ length a.ids
  pub paired : length a.caps ≡ length a.ids

-- the rule, for a block of each owner
pub record BlocksApart (a : Arena) (B : ℕ → Block) : Type 0 where
  pub shaped : Shaped a
  pub inside : (i : ℕ) → Inside a (B i)
  pub apart : (i j : ℕ) → (i ≡ j → ⊥) → Apart a (B i) (B j)

-- a family with another value at i
abbrev pub at : {A : Type 0} → (ℕ → A) → ℕ → A → ℕ → A
at f i x j = cond (eqb j i) x (f j)

-- the promise: the edit of owner i's block keeps the rule, makes i's list the new one, and leaves every other owner's list as it was;
-- the length in use only grows, and a capacity may shrink (an empty block's old start may be another's) but never grows
pub record Edited (a : Arena) (B : ℕ → Block) (i : ℕ) (new : List ℕ) (a' : Arena) (b' : Block) : Type 0 where
  pub rule : BlocksApart a' (at B i b')
  pub lists : (j : ℕ) → list_of a' (at B i b' j) ≡ at (λ (k : ℕ). list_of a (B k)) i new j
  pub grows : a.used ≤ a'.used
  pub limit : length a'.ids ≡ length a.ids
  pub capacities : (j : ℕ) → (j ≡ i → ⊥) → cap_of a' (B j) ≤ cap_of a (B j)
