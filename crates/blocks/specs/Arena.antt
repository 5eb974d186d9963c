-- The arena of blocks (01, "Blocks"): a word for each id, and a word for the capacity recorded for a block that starts there, 0 for none.
-- What the block editor does, on lists.
use Rattle.std.specs.Prelude.{Bool, cond, List, ◌++◌, ℕ, ◌+◌, ◌*◌, max, min, length, take, drop, get_or, set, replicate, eqb, ltb, leb}
use Rattle.words.specs.Parts.{part, put}
use Rattle.words.specs.Lists.{insert_at, index_of, without}
use Rattle.blocks.specs.declared.Block as code

-- "A block is (start, len) in an arena, first (0, 0)."
abbrev pub Block : Type 0
Block = code.Block

abbrev pub block : ℕ → ℕ → Block
block s n = record { start = s; len = n }

-- ids and caps are as long as the limit; `used` is the arena's length, below which the blocks lie
pub record Arena : Type 0 where
  pub ids : List ℕ
  pub caps : List ℕ
  pub used : ℕ

-- the words of an arena: the ids, then the capacities
abbrev pub arena_words : Arena → List ℕ
arena_words a = a.ids ++ a.caps

abbrev pub arena_of : ℕ → ℕ → List ℕ → Arena
arena_of limit used w = record { ids = take limit w; caps = drop limit w; used = used }

-- "Capacity: 0 if len is 0, else the larger of len and the recorded capacity at start."
abbrev pub capacity_of : List ℕ → Block → ℕ
capacity_of caps b = cond (eqb b.len 0) 0 (max b.len (get_or caps b.start 0))

abbrev pub cap_of : Arena → Block → ℕ
cap_of a b = capacity_of a.caps b

abbrev pub list_of : Arena → Block → List ℕ
list_of a b = part b.start b.len a.ids

-- the arena after an edit, and where the edited block is
pub record Edit : Type 0 where
  pub arena : Arena
  pub block : Block

-- ---- insertion

-- "with capacity max(2 × len, 4)"
abbrev pub moved_capacity : ℕ → ℕ
moved_capacity len = max (2 * len) 4

-- the arena entries that an insertion into the block takes: none while len < capacity
unfoldable pub takes : Arena → Block → ℕ
takes a b = cond (ltb b.len (cap_of a b)) 0 (moved_capacity b.len)

-- whether the arena has them
unfoldable pub has_room : Arena → Block → Bool
has_room a b = leb (a.used + takes a b) (length a.ids)

-- "Insertion shifts in place while len < capacity"
abbrev pub inserted_in_place : Arena → Block → ℕ → ℕ → Edit
inserted_in_place a b k id =
    record {
      arena = record { ids = put b.start (insert_at k id (list_of a b)) a.ids; caps = a.caps; used = a.used };
      block = block b.start (b.len + 1);
    }

-- no block starts at the n entries from s on: what their records held before they came into use is erased
abbrev pub unrecorded : List ℕ → ℕ → ℕ → List ℕ
unrecorded caps s n = put s (replicate n 0) caps

-- "else the block moves to the arena's end ..: the record at the OLD start is erased, even if another block starts there, then the new one written."
abbrev pub inserted_moved : Arena → Block → ℕ → ℕ → Edit
inserted_moved a b k id =
    record {
      arena = record {
        ids = put a.used (insert_at k id (list_of a b)) a.ids;
        caps = set (unrecorded (set a.caps b.start 0) a.used (moved_capacity b.len)) a.used (moved_capacity b.len);
        used = a.used + moved_capacity b.len;
      };
      block = block a.used (b.len + 1);
    }

-- id put at index k of the block, or at its end where k is past it (`InsertAt` clamps to len); where there is room
unfoldable pub inserted : Arena → Block → ℕ → ℕ → Edit
inserted a b k id = cond (ltb b.len (cap_of a b)) (inserted_in_place a b k id) (inserted_moved a b k id)

-- the index at which the id then stands
abbrev pub inserted_at : Block → ℕ → ℕ
inserted_at b k = min k b.len

-- ---- removal

-- "Removing the only id erases the record; else the record becomes the larger of itself and the old len."
abbrev pub dropped_from : Arena → Block → ℕ → Edit
dropped_from a b id =
    record {
      arena = record {
        ids = put b.start (without (eqb id) (list_of a b)) a.ids;
        caps = set a.caps b.start (cond (eqb b.len 1) 0 (cap_of a b));
        used = a.used;
      };
      block = block b.start (length (without (eqb id) (list_of a b)));
    }

-- where the id is not in the block, nothing changes
unfoldable pub removed : Arena → Block → ℕ → Edit
removed a b id = cond (ltb (index_of (eqb id) (list_of a b)) b.len) (dropped_from a b id) (record { arena = a; block = b })

-- what an insertion takes once the id was unlinked from the same block: the Full test of a move within one parent
abbrev pub takes_after_removal : Arena → Block → ℕ → ℕ
takes_after_removal a b id = takes (removed a b id).arena (removed a b id).block

-- an arena as Start lays it
abbrev pub fresh_arena : ℕ → Arena
fresh_arena limit = record { ids = replicate limit 0; caps = replicate limit 0; used = 0 }

-- ---- compaction

-- lists laid end to end from index `used` on: the list copied to the end, and its block there
abbrev pub laid : Arena → List ℕ → Edit
laid a l =
    record {
      arena = record { ids = put a.used l a.ids; caps = a.caps; used = a.used + length l };
      block = block a.used (length l);
    }
