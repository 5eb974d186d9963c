-- What an insertion answers, and the words that it leaves: none, and every word as it was, exactly where the arena has no room.
use Rattle.std.specs.Prelude.{Bool, cond, List, Option, Some, None, ℕ, ◌+◌, length, leb}
use Rattle.blocks.specs.declared.Inserted.{Inserted}
use Rattle.blocks.specs.Arena.{Arena, Block, Edit, arena_words, has_room, inserted, inserted_at, takes_after_removal}

-- where the block is, the arena's length then, and the index at which the id stands
abbrev pub landed : Edit → ℕ → Inserted
landed e index = record { block = e.block; used = e.arena.used; index = index }

unfoldable pub insert_answer : Arena → Block → ℕ → ℕ → Option Inserted
insert_answer a b k id = cond (has_room a b) (Some (landed (inserted a b k id) (inserted_at b k))) None

-- w are the arena's words before
unfoldable pub insert_words : List ℕ → Arena → Block → ℕ → ℕ → List ℕ
insert_words w a b k id = cond (has_room a b) (arena_words (inserted a b k id).arena) w

-- whether there is room for an insertion once the id was unlinked from the same block: the Full test of a move within one parent
unfoldable pub has_room_after_removal : Arena → Block → ℕ → Bool
has_room_after_removal a b id = leb (a.used + takes_after_removal a b id) (length a.ids)
