-- What the writing steps ask.
use Rattle.std.specs.Prelude.{◌≡◌, true, List, ℕ, length, Some}
use Rattle.blocks.specs.Arena.{has_room}
use Rattle.blocks.specs.Rule.{Inside}
use Rattle.records.specs.Handles.{handle_index}
use Rattle.model.specs.Kinds.{Which, children, which_of}
use Rattle.model.specs.Doc.{Doc, live_slot, kind_in, kind_at, parent_at, range_in}
use Rattle.model.specs.Rules.{has_range}
use Rattle.model.specs.Edits.{unhook}
use Rattle.layout.specs.declared.Document.{Document}
use Rattle.layout.specs.Layout.{memory_ok}
use Rattle.memory.specs.Decode.{decode}
use Rattle.memory.specs.Entries.{BlockHeld, BlockOpen}

-- test 4, and a live node at h
pub record NodeHeld (d : Document) (mem : List ℕ) (h : ℕ) : Type 0 where
  pub memory : memory_ok d (length mem) ≡ true
  pub live : live_slot (decode d mem) (handle_index h) ≡ true

-- h can be taken off its parent, where it has one: the parent's block of its kind lies in its arena
pub record Hooked (d : Document) (mem : List ℕ) (h : ℕ) : Type 0 where
  pub node : NodeHeld d mem h
  pub block : (p : ℕ) → parent_at (decode d mem) h ≡ Some p → BlockHeld d mem (which_of (kind_at (decode d mem) h)) (handle_index p)

-- h can be put into p's block, which has room
pub record Attachable (d : Document) (mem : List ℕ) (w : Which) (p h : ℕ) : Type 0 where
  pub node : NodeHeld d mem h
  pub room : BlockOpen d mem w (handle_index p)

-- slot s of a document has a block in this arena, which lies in it and has room for one more
pub record RoomIn (D : Doc) (w : Which) (s : ℕ) : Type 0 where
  pub counts : D.counts_fit ≡ true
  pub live : live_slot D s ≡ true
  pub owner : has_range w (kind_in D s) ≡ true
  pub inside : Inside (D.arenas w) (range_in D w s)
  pub room : has_room (D.arenas w) (range_in D w s) ≡ true

-- h can go from where it is to the children of p, which have room once it was taken off
pub record Movable (d : Document) (mem : List ℕ) (p h : ℕ) : Type 0 where
  pub hooked : Hooked d mem h
  pub room : RoomIn (unhook (decode d mem) h) children (handle_index p)
