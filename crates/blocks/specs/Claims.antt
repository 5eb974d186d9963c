-- Deciding rule 5, one owner's block after another.
use Rattle.std.specs.Prelude.{◌≡◌, Bool, ◌&&◌, cond, List, ℕ, zero, suc, ◌+◌, ◌≤◌, ◌<◌, length, get_or, replicate, eqb, leb}
use Rattle.words.specs.Parts.{part, put}
use Rattle.words.specs.Lists.{all, all_below}
use Rattle.blocks.specs.Arena.{Arena, Block, cap_of}
use Rattle.blocks.specs.Rule.{Inside, Apart}

-- what is decided of owner k's block: it lies inside the arena, and apart from the blocks of all owners before.
-- A layer above needs no more than this; how it is decided follows.
pub record ApartBefore (a : Arena) (B : ℕ → Block) (k : ℕ) : Type 0 where
  pub inside : Inside a (B k)
  pub apart : (i : ℕ) → i < k → Apart a (B i) (B k)

-- ---- decided with a mark for each arena entry in use: a block claims its entries, and an entry that was claimed before is an overlap

-- the n entries from index s on are there, and none is claimed
unfoldable pub claimable : List ℕ → ℕ → ℕ → Bool
claimable m s n = leb (s + n) (length m) && all (eqb 0) (part s n m)

-- the marks after the claim
unfoldable pub claimed : List ℕ → ℕ → ℕ → List ℕ
claimed m s n = cond (claimable m s n) (put s (replicate n 1) m) m

-- the same for a block with its capacity
abbrev pub block_claimable : Arena → List ℕ → Block → Bool
block_claimable a m b = claimable m b.start (cap_of a b)

abbrev pub block_claimed : Arena → List ℕ → Block → List ℕ
block_claimed a m b = claimed m b.start (cap_of a b)

-- entry p lies in the block with its capacity
pub record Covers (a : Arena) (b : Block) (p : ℕ) : Type 0 where
  pub low : b.start ≤ p
  pub high : p < b.start + cap_of a b

-- the marks are those of the blocks of the owners below k: an entry without a mark is in none of them, and an entry in none of them has no mark
pub record Marked (a : Arena) (B : ℕ → Block) (k : ℕ) (m : List ℕ) : Type 0 where
  pub size : length m ≡ a.used
  pub outside : (p : ℕ) → p < length m → get_or m p 0 ≡ 0 → (i : ℕ) → i < k → Covers a (B i) p → ⊥
  pub clean : (p : ℕ) → ((i : ℕ) → i < k → Covers a (B i) p → ⊥) → get_or m p 0 ≡ 0

-- the marks after the blocks of the owners below k claimed theirs, one after another, and whether the claims of all below n are met
unfoldable pub marks_after : Arena → (ℕ → Block) → ℕ → List ℕ
marks_after a B zero = replicate a.used 0
marks_after a B (suc k) = block_claimed a (marks_after a B k) (B k)

unfoldable pub all_claimable : Arena → (ℕ → Block) → ℕ → Bool
all_claimable a B n = all_below (λ (k : ℕ). block_claimable a (marks_after a B k) (B k)) n
