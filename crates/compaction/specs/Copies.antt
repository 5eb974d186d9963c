-- Arenas being rebuilt in place: the copies of lists stand in the capacity words, so that the ids can be read until the end.
use Rattle.std.specs.Prelude.{◌≡◌, true, cond, List, [], ◌∷◌, ℕ, suc, ◌+◌, ◌≤◌, length, get_or, drop, None}
use Rattle.words.specs.Lists.{joined, keep, tabulate}
use Rattle.blocks.specs.Arena.{Arena, Block, arena_words}
use Rattle.blocks.specs.Compact.{copied}
use Rattle.records.specs.Handles.{handle_index}
use Rattle.model.specs.Kinds.{Which, children, attributes, namespaces, is_element}
use Rattle.model.specs.Doc.{Doc, change_nodes, change_arenas, generation_at, live_slot, handle_at, kind_in, kind_at, parent_in, parent_at, range_in, list_in, list_at, even, is_none, is_some, has_list}
use Rattle.model.specs.Rules.{Rules, has_range}
use Rattle.model.specs.Edits.{Laying, update_which, walk, lay_list, lay_all, laying_from}
use Rattle.layout.specs.declared.Counts.{Counts}
use Rattle.layout.specs.declared.Document.{Document}
use Rattle.layout.specs.Layout.{limits_of, entries_of, document_words, memory_ok}
use Rattle.memory.specs.Decode.{arena_part, arena_in, decode}
use Rattle.memory.specs.Writing.{put_arena}
use Rattle.layout.specs.Record.{lengths_with, with_lengths}
use Rattle.compaction.specs.declared.copy.Lengths.{Lengths}

abbrev pub length_of : Lengths → Which → ℕ
length_of l children = l.children
length_of l attributes = l.attributes
length_of l namespaces = l.namespaces

abbrev pub with_length : Lengths → Which → ℕ → Lengths
with_length l children n = record { children = n; attributes = l.attributes; namespaces = l.namespaces }
with_length l attributes n = record { children = l.children; attributes = n; namespaces = l.namespaces }
with_length l namespaces n = record { children = l.children; attributes = l.attributes; namespaces = n }

-- nothing copied yet
abbrev pub no_lengths : Lengths
no_lengths = record { children = 0; attributes = 0; namespaces = 0 }

-- the counts with these lengths of the arenas
abbrev pub counts_rebuilt : Counts → Lengths → Counts
counts_rebuilt c l = lengths_with c l.children l.attributes l.namespaces

-- a document with other ranges and arenas
abbrev pub with_blocks : Doc → (Which → List Block) → (Which → Arena) → Doc
with_blocks d ranges arenas = change_arenas (change_nodes d d.kinds d.parents ranges) arenas

-- what the copies in memory make up, with the ranges there
abbrev pub copies_in : Document → List ℕ → Lengths → Which → Laying
copies_in d mem used w =
    record {
      arena = copied (entries_of d.limits w) (length_of used w) (arena_part d w mem);
      ranges = (decode d mem).ranges w;
    }

-- mem' is mem with copies that make up the layings a, so many entries in use: the ids of mem stand, and ranges are those of a
pub record Copies (d : Document) (mem mem' : List ℕ) (used : Lengths) (a : Which → Laying) : Type 0 where
  pub size : length mem' ≡ length mem
  pub past : drop (document_words (limits_of d.limits)) mem' ≡ drop (document_words (limits_of d.limits)) mem
  pub document : decode d mem' ≡ with_blocks (decode d mem) (λ w. (a w).ranges) (λ w. arena_in d w mem')
  pub ids : (w : Which) → (arena_in d w mem').ids ≡ (arena_in d w mem).ids
  pub copies : (w : Which) → copied (entries_of d.limits w) (length_of used w) (arena_part d w mem') ≡ (a w).arena

-- what is asked before a list is copied: a live owner that has such a block, which lies in the arena and has room behind the copies
pub record Layable (d : Document) (mem : List ℕ) (w : Which) (s : ℕ) (used : ℕ) : Type 0 where
  pub memory : memory_ok d (length mem) ≡ true
  pub live : live_slot (decode d mem) s ≡ true
  pub owner : has_range w (kind_in (decode d mem) s) ≡ true
  pub inside : (range_in (decode d mem) w s).start + (range_in (decode d mem) w s).len ≤ entries_of d.limits w
  pub room : used + (range_in (decode d mem) w s).len ≤ entries_of d.limits w

-- one list laid, and the lists of one node
abbrev pub list_laid : Doc → (Which → Laying) → Which → ℕ → Which → Laying
list_laid d a w s = update_which a w (lay_list (a w) s (list_in d w s))

abbrev pub node_laid : Doc → (Which → Laying) → ℕ → Which → Laying
node_laid d a h w = lay_all d w (h ∷ []) (a w)

-- what is asked before the lists of a node are laid
abbrev pub NodeLayable : Document → List ℕ → ℕ → Lengths → Type 0
NodeLayable d mem h used =
    (w : Which) → has_list w (is_element (kind_at (decode d mem) h)) ≡ true → Layable d mem w (handle_index h) (length_of used w)

-- ---- the copies in place of the ids

-- the copies in one arena, so many entries, replace the ids, and no capacity is recorded
unfoldable pub arena_replaced : Document → Which → Lengths → List ℕ → List ℕ
arena_replaced d w used mem =
    put_arena d w (arena_words (copied (entries_of d.limits w) (length_of used w) (arena_part d w mem))) mem

abbrev pub arenas_replaced : Document → Lengths → List ℕ → List ℕ
arenas_replaced d used mem = arena_replaced d namespaces used (arena_replaced d attributes used (arena_replaced d children used mem))

-- the record then; the order is not current any more
abbrev pub lengths_rebuilt : Document → Lengths → Document
lengths_rebuilt d used = with_lengths d used.children used.attributes used.namespaces

-- ---- the trees of the first slots

-- of rule 1: a slot of an even generation has a node
abbrev pub NodesEven : Doc → Type 0
NodesEven d = (i : ℕ) → even (generation_at d i) ≡ true → is_some (get_or d.kinds i None) ≡ true

-- the live nodes without a parent in the first n slots, and the nodes of their trees
abbrev pub tops_below : Doc → ℕ → List ℕ
tops_below d n =
    keep (λ h. is_none (parent_at d h)) (joined (λ i. cond (live_slot d i) (handle_at d i ∷ []) []) (tabulate (λ i. i) n))

abbrev pub rebuilt_below : Doc → ℕ → List ℕ
rebuilt_below d n = joined (λ top. walk (λ h. list_at d children h) (length d.gens) (top ∷ [])) (tops_below d n)

-- these are laid, of the document that the memory was at first
pub record TreesLaid (d : Document) (origin mem : List ℕ) (n : ℕ) (used : Lengths) : Type 0 where
  pub memory : memory_ok d (length origin) ≡ true
  pub rules : Rules (decode d origin)
  pub copies : Copies d origin mem used (λ w. lay_all (decode d origin) w (rebuilt_below (decode d origin) n) (laying_from (decode d origin) w))

-- and the next slot has a tree
pub record TreeAhead (d : Document) (mem : List ℕ) (n : ℕ) (used : Lengths) : Type 0 where
  pub origin : List ℕ
  pub trees : TreesLaid d origin mem n used
  pub live : live_slot (decode d mem) n ≡ true
  pub top : parent_in (decode d mem) n ≡ None

-- what laying the tree of a slot, if it has one, promises
abbrev pub NextLaid : Document → List ℕ → List ℕ → ℕ → Lengths → Lengths → Type 0
NextLaid d mem mem' n used used' = (origin : List ℕ) → TreesLaid d origin mem n used → TreesLaid d origin mem' (suc n) used'
