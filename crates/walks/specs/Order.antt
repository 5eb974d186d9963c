-- The renewed order: keys written into the order words.
use Rattle.std.specs.Prelude.{◌≡◌, true, ℕ, ◌+◌, ◌≤◌, ◌<◌, length, drop, replicate, None}
use mathlib.Core.List.{List, ◌∷◌, ◌++◌, Memᴰ}
use Rattle.words.specs.Parts.{put}
use Rattle.records.specs.Handles.{handle_index}
use Rattle.slots.specs.Regions.{order_start}
use Rattle.model.specs.Kinds.{Which, children, attributes, namespaces}
use Rattle.model.specs.Doc.{Doc, root_handle, no_key, live_slot, resolves, parent_at, range_in, list_in, list_at}
use Rattle.model.specs.Rules.{Entries, Blocks}
use Rattle.model.specs.Edits.{keyed}
use Rattle.layout.specs.declared.Document.{Document}
use Rattle.layout.specs.Layout.{limits_of, memory_ok}
use Rattle.memory.specs.Decode.{slots_made, decode}

-- the buffer with other order words, one for each slot up to the limit
unfoldable pub put_orders : Document → List ℕ → List ℕ → List ℕ
put_orders d words mem = put (order_start d.limits.nodes) words mem

-- with the handles numbered from a key on
unfoldable pub put_keys : Document → List ℕ → ℕ → List ℕ → List ℕ
put_keys d mem key l = put_orders d (keyed (decode d mem).order key l) mem

-- with no key for the slots made
unfoldable pub clear_keys : Document → List ℕ → List ℕ
clear_keys d mem = put_orders d (replicate (slots_made d) no_key ++ drop (slots_made d) (decode d mem).order) mem

-- "node, its namespaces, its attributes": what is numbered at a node
abbrev pub keyed_at : Doc → ℕ → List ℕ
keyed_at d h = h ∷ (list_at d namespaces h ++ list_at d attributes h)

-- "pushes children, attributes, namespaces": what goes on the stack of `free_subtree`, the last on top
abbrev pub pushed_in : Doc → ℕ → List ℕ
pushed_in d s = list_in d children s ++ (list_in d attributes s ++ list_in d namespaces s)

-- ---- what is asked before a list is read: the slot is live, and its block lies in the arena

pub record ListHeld (d : Document) (mem : List ℕ) (w : Which) (s : ℕ) : Type 0 where
  pub memory : memory_ok d (length mem) ≡ true
  pub live : live_slot (decode d mem) s ≡ true
  pub inside : (range_in (decode d mem) w s).start + (range_in (decode d mem) w s).len ≤ (limits_of d.limits).entries w

-- and before its entries are numbered: each is of a slot
pub record Listed (d : Document) (mem : List ℕ) (w : Which) (s : ℕ) : Type 0 where
  pub held : ListHeld d mem w s
  pub slots : (h : ℕ) → Memᴰ h (list_in (decode d mem) w s) → handle_index h < d.limits.nodes

-- of the structure rules, what a walk from the Root uses: rules 4 and 5, and that the Root is live and has no parent
pub record Walkable (d : Doc) : Type 0 where
  pub entries : Entries d
  pub blocks : Blocks d
  pub root : resolves d root_handle ≡ true
  pub top : parent_at d root_handle ≡ None
