-- Compaction of one arena: the lists of its owners laid end to end in a given order, every capacity cleared.
use Rattle.std.specs.Prelude.{◌≡◌, cond, List, [], ◌∷◌, map, ℕ, ◌+◌, length, get_or, take, replicate, eqb}
use Rattle.words.specs.Parts.{part, put}
use Rattle.words.specs.Lists.{any, sum}
use Rattle.blocks.specs.Arena.{Arena, Block, list_of, laid}
use Rattle.blocks.specs.Rule.{BlocksApart, at}

-- what compaction starts from: nothing in use, no capacity recorded
abbrev pub cleared : Arena → Arena
cleared a = record { ids = a.ids; caps = replicate (length a.ids) 0; used = 0 }

-- no capacity is recorded, so that a block is exactly full
pub record NoRecords (a : Arena) : Type 0 where
  pub none : (p : ℕ) → get_or a.caps p 0 ≡ 0

-- an arena, and a block of each owner in it
pub record Layout : Type 0 where
  pub arena : Arena
  pub blocks : ℕ → Block

-- the owner's list copied to the arena's end, and its block there
abbrev pub lay_owner : (ℕ → List ℕ) → Layout → ℕ → Layout
lay_owner lists s i =
    record {
      arena = (laid s.arena (lists i)).arena;
      blocks = at s.blocks i (laid s.arena (lists i)).block;
    }

-- the owners' lists, in the order given
unfoldable pub lay_owners : (ℕ → List ℕ) → Layout → List ℕ → Layout
lay_owners lists s [] = s
lay_owners lists s (i ∷ order) = lay_owners lists (lay_owner lists s i) order

abbrev pub lengths : (ℕ → List ℕ) → List ℕ → ℕ
lengths lists order = sum (map (λ (i : ℕ). length (lists i)) order)

-- the promise: rule 5 with no capacity recorded, each list in its owner's block, the others' lists as they were, and no entry in use besides
pub record Laid (lists : ℕ → List ℕ) (s s' : Layout) (order : List ℕ) : Type 0 where
  pub rule : BlocksApart s'.arena s'.blocks
  pub records : NoRecords s'.arena
  pub shown : (j : ℕ) → list_of s'.arena (s'.blocks j) ≡ cond (any (eqb j) order) (lists j) (list_of s.arena (s.blocks j))
  pub used : s'.arena.used ≡ s.arena.used + lengths lists order
  pub limit : length s'.arena.ids ≡ length s.arena.ids

-- ---- in words

-- The words of an arena while its blocks are copied: the ids stand as they were, and the copies in the capacity words, which are cleared anyway.
-- So compaction needs no other memory. This is the arena that the copies make up:
unfoldable pub copied : ℕ → ℕ → List ℕ → Arena
copied limit used w =
    record { ids = put 0 (part limit used w) (take limit w); caps = replicate limit 0; used = used }

-- one block copied: the ids stand, and the copies are those before with the block's list at the end
pub record BlockCopied (w w' : List ℕ) (limit used start len : ℕ) : Type 0 where
  pub ids : take limit w' ≡ take limit w
  pub copies : copied limit (used + len) w' ≡ (laid (copied limit used w) (part start len (take limit w))).arena
