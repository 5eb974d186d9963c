-- A slot is taken for a new node.
use Rattle.std.specs.Prelude.{◌≡◌, true, List, ℕ, ◌%◌, ◌<◌, length, get_or, None}
use Rattle.blocks.specs.Arena.{block}
use Rattle.records.specs.Fields.{NodeFits}
use Rattle.records.specs.Handles.{handle_index}
use Rattle.records.specs.declared.Range.{Range}
use Rattle.records.specs.declared.NodeData.{NodeData}
use Rattle.records.specs.declared.Node.{Node}
use Rattle.model.specs.Kinds.{Which}
use Rattle.model.specs.Doc.{Doc, generation_at}
use Rattle.model.specs.Calls.{slot_fits}
use Rattle.layout.specs.declared.Document.{Document}
use Rattle.layout.specs.Layout.{memory_ok}
use Rattle.memory.specs.Decode.{handle_of, range_of, decode}
use Rattle.edits.specs.Asked.{RoomIn}

-- what taking a slot asks of a document: of rules 1 and 2 that counts and generations are in their fields and the free list holds slots made of odd generation, and a slot
pub record SlotReady (D : Doc) : Type 0 where
  pub counts : D.counts_fit ≡ true
  pub generations : (i : ℕ) → i < length D.gens → get_or D.gens i 0 < 4294967296
  pub inside : (i : ℕ) → i < length D.free → get_or D.free i 0 < length D.gens
  pub odd : (i : ℕ) → i < length D.free → generation_at D (get_or D.free i 0) % 2 ≡ 1
  pub slot : slot_fits D ≡ true

-- test 4, and a slot
pub record CanBear (d : Document) (mem : List ℕ) : Type 0 where
  pub memory : memory_ok d (length mem) ≡ true
  pub ready : SlotReady (decode d mem)

-- a block of no entry, and a node under no parent, with no child
abbrev pub no_block : Range
no_block = record { start = 0; len = 0 }

abbrev pub new_node : NodeData → Node
new_node d = record { «data» = d; parent = None; children = no_block }

-- a node in no list, with all its blocks (0, 0)
pub record Newborn (m : Node) : Type 0 where
  pub fits : NodeFits m
  pub orphan : handle_of m.parent ≡ None
  pub bare : (w : Which) → range_of w m ≡ block 0 0

-- a slot, and room in p's block of this arena
pub record Appendable (d : Document) (mem : List ℕ) (w : Which) (p : ℕ) : Type 0 where
  pub bear : CanBear d mem
  pub room : RoomIn (decode d mem) w (handle_index p)
