-- An edit of a node's block: the arena's words, and the node's range.
use Rattle.std.specs.Prelude.{◌≡◌, true, List, ℕ, length}
use Rattle.blocks.specs.Arena.{Block, Edit, arena_words, has_room, inserted, removed}
use Rattle.blocks.specs.Rule.{Inside}
use Rattle.records.specs.declared.Range.{Range}
use Rattle.model.specs.Kinds.{Which}
use Rattle.model.specs.Doc.{live_slot, kind_in, range_in}
use Rattle.model.specs.Rules.{has_range}
use Rattle.layout.specs.declared.Document.{Document}
use Rattle.layout.specs.Layout.{memory_ok}
use Rattle.memory.specs.Decode.{decode}
use Rattle.memory.specs.Writing.{put_arena, put_range}

-- what an edit of slot s's block asks: test 4, and of rules 1 and 5 that the counts are within the limits and the block lies in the arena with its capacity
pub record BlockHeld (d : Document) (mem : List ℕ) (w : Which) (s : ℕ) : Type 0 where
  pub memory : memory_ok d (length mem) ≡ true
  pub counts : (decode d mem).counts_fit ≡ true
  pub live : live_slot (decode d mem) s ≡ true
  pub owner : has_range w (kind_in (decode d mem) s) ≡ true
  pub inside : Inside ((decode d mem).arenas w) (range_in (decode d mem) w s)

-- and an insertion asks for room: Full was decided before any write
pub record BlockOpen (d : Document) (mem : List ℕ) (w : Which) (s : ℕ) : Type 0 where
  pub held : BlockHeld d mem w s
  pub room : has_room ((decode d mem).arenas w) (range_in (decode d mem) w s) ≡ true

-- ---- the edit of the arena and of the block

unfoldable pub insertion : Document → List ℕ → Which → ℕ → ℕ → ℕ → Edit
insertion d mem w s at id = inserted ((decode d mem).arenas w) (range_in (decode d mem) w s) at id

unfoldable pub removal : Document → List ℕ → Which → ℕ → ℕ → Edit
removal d mem w s id = removed ((decode d mem).arenas w) (range_in (decode d mem) w s) id

-- ---- the buffer after it

abbrev pub range_from : Block → Range
range_from b = record { start = b.start; len = b.len }

unfoldable pub put_block : Document → List ℕ → Which → ℕ → Edit → List ℕ
put_block d mem w s e = put_range d (put_arena d w (arena_words e.arena) mem) s w (range_from e.block)
