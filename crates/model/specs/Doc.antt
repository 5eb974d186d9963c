-- The document as lists, shaped as the source: what the words of lent memory mean. Each call is a function on it (`Calls`).
use Rattle.std.specs.Prelude.{Bool, true, false, ◌&&◌, ◌||◌, cond, List, [], ◌∷◌, ℕ, zero, suc, ◌+◌, ◌%◌, length, get_or, replicate, eqb, leb, ltb, Option, None, Some}
use Rattle.words.specs.Lists.{find, joined, tabulate}
use Rattle.blocks.specs.Arena.{Arena, Block, block, list_of, fresh_arena}
use Rattle.records.specs.Handles.{handle_index, handle_generation, word_of}
use Rattle.texts.specs.Pool.{Pool, text_at}
use Rattle.names.specs.Table.{Name, name, name_at}
use Rattle.model.specs.Kinds.{Kind, root, Which, children, attributes, namespaces, is_element, map_kind}

-- "Limits are chosen at the start."
pub record Limits : Type 0 where
  pub nodes : ℕ
  pub entries : Which → ℕ
  pub texts : ℕ
  pub text_bytes : ℕ
  pub names : ℕ
  pub name_bytes : ℕ

-- "Greatest: 65,536 nodes (N); 262,144 entries in each of three arenas (A, B, C); 131,072 text slots (T); 16,777,216 text bytes;
-- 4,096 names; 1,048,576 name bytes." The node limit is not 0.
unfoldable pub limits_ok : Limits → Bool
limits_ok l =
    ltb 0 l.nodes && leb l.nodes 65536
    && leb (l.entries children) 262144 && leb (l.entries attributes) 262144 && leb (l.entries namespaces) 262144
    && leb l.texts 131072 && leb l.text_bytes 16777216 && leb l.names 4096 && leb l.name_bytes 1048576

-- A handle is one word, index + generation × 2^32.
pub record Doc : Type 0 where
  pub limits : Limits
  -- the generation of each slot made; odd for a free one
  pub gens : List ℕ
  -- the free slots, the last freed first
  pub free : List ℕ
  -- the node in each slot, none where the words are no node; of a free slot, what was left there
  pub kinds : List (Option (Kind ℕ (Option ℕ)))
  pub parents : List (Option ℕ)
  pub ranges : Which → List Block
  pub arenas : Which → Arena
  -- an order word for each slot up to the limit, and whether the order is current
  pub order : List ℕ
  pub current : Bool
  pub pool : Pool
  -- the pair of each number; none where the bytes of a damaged table show no pair
  pub names : List (Option Name)
  -- what only the words show: that the counts are within the limits (rule 1), and that the lengths of texts and names add to the bytes used (rule 8)
  pub counts_fit : Bool
  pub lengths_fit : Bool

-- the word of a handle (index, generation)
abbrev pub handle_word : ℕ → ℕ → ℕ
handle_word i g = word_of (record { index = i; generation = g })

abbrev pub root_handle : ℕ
root_handle = handle_word 0 0

-- the order word of a node outside, and of a free slot
abbrev pub no_key : ℕ
no_key = 4294967295

abbrev pub is_some : {A : Type 0} → Option A → Bool
is_some None = false
is_some (Some a) = true

abbrev pub is_none : {A : Type 0} → Option A → Bool
is_none None = true
is_none (Some a) = false

abbrev pub or_else : {A : Type 0} → A → Option A → A
or_else d None = d
or_else d (Some a) = a

abbrev pub any_option : {A : Type 0} → (A → Bool) → Option A → Bool
any_option p None = false
any_option p (Some a) = p a

abbrev pub map_option : {A B : Type 0} → (A → B) → Option A → Option B
map_option f None = None
map_option f (Some a) = Some (f a)

-- Start: "lays the Root alone, all else zero"; the order is current
abbrev pub fresh : Limits → Doc
fresh l = record {
  limits = l;
  gens = 0 ∷ [];
  free = [];
  kinds = Some root ∷ [];
  parents = None ∷ [];
  ranges = λ w. block 0 0 ∷ [];
  arenas = λ w. fresh_arena (l.entries w);
  order = replicate l.nodes 0;
  current = true;
  pool = record { texts = []; free = [] };
  names = [];
  counts_fit = true;
  lengths_fit = true;
}

-- ---- some columns changed, all others as they were. A document is made by these, by `fresh` and by `columns`, and nowhere else: a new column is a line here.

abbrev pub change_slots : Doc → List ℕ → List ℕ → Doc
change_slots d gens free = record {
  limits = d.limits;
  gens = gens;
  free = free;
  kinds = d.kinds;
  parents = d.parents;
  ranges = d.ranges;
  arenas = d.arenas;
  order = d.order;
  current = d.current;
  pool = d.pool;
  names = d.names;
  counts_fit = d.counts_fit;
  lengths_fit = d.lengths_fit;
}

abbrev pub change_nodes : Doc → List (Option (Kind ℕ (Option ℕ))) → List (Option ℕ) → (Which → List Block) → Doc
change_nodes d kinds parents ranges = record {
  limits = d.limits;
  gens = d.gens;
  free = d.free;
  kinds = kinds;
  parents = parents;
  ranges = ranges;
  arenas = d.arenas;
  order = d.order;
  current = d.current;
  pool = d.pool;
  names = d.names;
  counts_fit = d.counts_fit;
  lengths_fit = d.lengths_fit;
}

abbrev pub change_arenas : Doc → (Which → Arena) → Doc
change_arenas d arenas = record {
  limits = d.limits;
  gens = d.gens;
  free = d.free;
  kinds = d.kinds;
  parents = d.parents;
  ranges = d.ranges;
  arenas = arenas;
  order = d.order;
  current = d.current;
  pool = d.pool;
  names = d.names;
  counts_fit = d.counts_fit;
  lengths_fit = d.lengths_fit;
}

abbrev pub change_order : Doc → List ℕ → Bool → Doc
change_order d order current = record {
  limits = d.limits;
  gens = d.gens;
  free = d.free;
  kinds = d.kinds;
  parents = d.parents;
  ranges = d.ranges;
  arenas = d.arenas;
  order = order;
  current = current;
  pool = d.pool;
  names = d.names;
  counts_fit = d.counts_fit;
  lengths_fit = d.lengths_fit;
}

abbrev pub change_current : Doc → Bool → Doc
change_current d current = change_order d d.order current

abbrev pub change_pool : Doc → Pool → Doc
change_pool d pool = record {
  limits = d.limits;
  gens = d.gens;
  free = d.free;
  kinds = d.kinds;
  parents = d.parents;
  ranges = d.ranges;
  arenas = d.arenas;
  order = d.order;
  current = d.current;
  pool = pool;
  names = d.names;
  counts_fit = d.counts_fit;
  lengths_fit = d.lengths_fit;
}

abbrev pub change_names : Doc → List (Option Name) → Doc
change_names d names = record {
  limits = d.limits;
  gens = d.gens;
  free = d.free;
  kinds = d.kinds;
  parents = d.parents;
  ranges = d.ranges;
  arenas = d.arenas;
  order = d.order;
  current = d.current;
  pool = d.pool;
  names = names;
  counts_fit = d.counts_fit;
  lengths_fit = d.lengths_fit;
}

abbrev pub change_fits : Doc → Bool → Bool → Doc
change_fits d counts_fit lengths_fit = record {
  limits = d.limits;
  gens = d.gens;
  free = d.free;
  kinds = d.kinds;
  parents = d.parents;
  ranges = d.ranges;
  arenas = d.arenas;
  order = d.order;
  current = d.current;
  pool = d.pool;
  names = d.names;
  counts_fit = counts_fit;
  lengths_fit = lengths_fit;
}

-- a document of all its columns
abbrev pub columns :
    Limits → List ℕ → List ℕ → List (Option (Kind ℕ (Option ℕ))) → List (Option ℕ) → (Which → List Block) → (Which → Arena) → List ℕ → Bool → Pool → List (Option Name) → Bool → Bool
    → Doc
columns limits gens free kinds parents ranges arenas order current pool names counts_fit lengths_fit = record {
  limits = limits;
  gens = gens;
  free = free;
  kinds = kinds;
  parents = parents;
  ranges = ranges;
  arenas = arenas;
  order = order;
  current = current;
  pool = pool;
  names = names;
  counts_fit = counts_fit;
  lengths_fit = lengths_fit;
}

abbrev pub even : ℕ → Bool
even n = eqb (n % 2) 0

-- ---- reading

-- a slot holds a live node: its generation is even (past the slots made it reads as odd) and its words are a node
abbrev pub generation_at : Doc → ℕ → ℕ
generation_at d i = get_or d.gens i 1

abbrev pub live_slot : Doc → ℕ → Bool
live_slot d i = even (generation_at d i) && is_some (get_or d.kinds i None)

-- the handle of the node in a slot
abbrev pub handle_at : Doc → ℕ → ℕ
handle_at d i = handle_word i (generation_at d i)

-- "Odd never resolves."
abbrev pub resolves : Doc → ℕ → Bool
resolves d h = live_slot d (handle_index h) && eqb (generation_at d (handle_index h)) (handle_generation h)

-- the live nodes, in slot order
abbrev pub live_nodes : Doc → List ℕ
live_nodes d = joined (λ i. cond (live_slot d i) (handle_at d i ∷ []) []) (tabulate (λ i. i) (length d.gens))

-- what a slot holds, and what a handle points at
abbrev pub kind_in : Doc → ℕ → Kind ℕ (Option ℕ)
kind_in d i = or_else root (get_or d.kinds i None)

abbrev pub kind_at : Doc → ℕ → Kind ℕ (Option ℕ)
kind_at d h = kind_in d (handle_index h)

abbrev pub parent_in : Doc → ℕ → Option ℕ
parent_in d i = get_or d.parents i None

abbrev pub parent_at : Doc → ℕ → Option ℕ
parent_at d h = parent_in d (handle_index h)

abbrev pub range_in : Doc → Which → ℕ → Block
range_in d w i = get_or (d.ranges w) i (block 0 0)

abbrev pub list_in : Doc → Which → ℕ → List ℕ
list_in d w i = list_of (d.arenas w) (range_in d w i)

abbrev pub list_at : Doc → Which → ℕ → List ℕ
list_at d w h = list_in d w (handle_index h)

-- the pair that `name` shows for a number, and the bytes of a text field
abbrev pub pair_at : Doc → ℕ → Name
pair_at d n = or_else (name [] []) (name_at d.names n)

abbrev pub bytes_at : Doc → Option ℕ → List ℕ
bytes_at d t = text_at d.pool t

-- the node with its names as pairs and its texts as bytes
abbrev pub node_at : Doc → ℕ → Kind Name (List ℕ)
node_at d h = map_kind (pair_at d) (bytes_at d) (kind_at d h)

-- what a handle shows to the checks: the node, or none where it is stale
abbrev pub view_at : Doc → ℕ → Option (Kind Name (List ℕ))
view_at d h = cond (resolves d h) (Some (node_at d h)) None

-- a list as it is shown: of a live handle, attributes and namespaces only of an element; "an empty list for a range outside its arena"
abbrev pub has_list : Which → Bool → Bool
has_list children e = true
has_list attributes e = e
has_list namespaces e = e

abbrev pub in_arena : Doc → Which → ℕ → Bool
in_arena d w i = leb ((range_in d w i).start + (range_in d w i).len) (d.arenas w).used

abbrev pub shown_block : Doc → Which → ℕ → Block
shown_block d w h =
    cond
    (resolves d h && (has_list w (is_element (kind_at d h)) && in_arena d w (handle_index h)))
    (range_in d w (handle_index h))
    (block 0 0)

abbrev pub shown_list : Doc → Which → ℕ → List ℕ
shown_list d w h = list_of (d.arenas w) (shown_block d w h)

-- the parent as it is shown: none of a stale handle
abbrev pub shown_parent : Doc → ℕ → Option ℕ
shown_parent d h = cond (resolves d h) (parent_at d h) None

-- the element among the Root's children
abbrev pub shows_element : Doc → ℕ → Bool
shows_element d h = resolves d h && is_element (kind_at d h)

abbrev pub root_element : Doc → Option ℕ
root_element d = find (shows_element d) (shown_list d children root_handle)

-- `check_no_cycle`: whether c is p or above it; the number of slots is fuel enough
abbrev pub on_path : ℕ → Doc → ℕ → ℕ → Bool
on_path zero d c p = false
on_path (suc f) d c p = eqb p c || any_option (λ q. on_path f d c q) (parent_at d p)
