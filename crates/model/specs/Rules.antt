-- The structure rules of 01, one record a rule. A document that breaks none of them is what every editing call asks; any other is Damaged.
use Rattle.std.specs.Prelude.{◌≡◌, Bool, true, false, cond, ℕ, ◌+◌, ◌%◌, ◌≤◌, ◌<◌, length, get_or, eqb, Option, None, Some}
use mathlib.Core.List.{List, [], ◌∷◌, Memᴰ}
use Rattle.words.specs.Lists.{count_of, joined, tabulate}
use Rattle.blocks.specs.Arena.{Block, block}
use Rattle.blocks.specs.Rule.{BlocksApart}
use Rattle.texts.specs.Pool.{bytes_of}
use Rattle.names.specs.Table.{entry_bytes}
use Rattle.records.specs.Handles.{handle_index}
use Rattle.model.specs.Kinds.{Kind, root, Which, children, attributes, namespaces, same_which, is_element, is_root, owns, which_of, names_of, texts_of}
use Rattle.model.specs.Doc.{Doc, generation_at, live_slot, handle_at, resolves, kind_in, kind_at, parent_in, parent_at, range_in, list_in, list_at, even, is_some}

-- every kind but attributes and namespaces has a child range, and elements have the two others
abbrev pub has_range : {N T : Type 0} → Which → Kind N T → Bool
has_range children k = same_which (which_of k) children
has_range attributes k = is_element k
has_range namespaces k = is_element k

-- What the layout gives every document, whatever its words: one entry a slot in each column, arenas and order words as long as their limits.
pub record Shape (d : Doc) : Type 0 where
  pub kinds : length d.kinds ≡ length d.gens
  pub parents : length d.parents ≡ length d.gens
  pub ranges : (w : Which) → length (d.ranges w) ≡ length d.gens
  pub ids : (w : Which) → length (d.arenas w).ids ≡ d.limits.entries w
  pub caps : (w : Which) → length (d.arenas w).caps ≡ d.limits.entries w
  pub order : length d.order ≡ d.limits.nodes
  -- a range that the kind has no use for is (0, 0)
  pub unused : (w : Which) (i : ℕ) (k : Kind ℕ (Option ℕ)) → get_or d.kinds i None ≡ Some k → has_range w k ≡ false → range_in d w i ≡ block 0 0

-- 1. "Counts are within limits, words within their fields. Slot 0 is the only live Root: generation 0, no parent."
pub record CountsAndFields (d : Doc) : Type 0 where
  pub counts : d.counts_fit ≡ true
  pub slots : length d.gens ≤ d.limits.nodes
  pub texts : length d.pool.texts ≤ d.limits.texts
  pub text_bytes : length (bytes_of d.pool.texts) ≤ d.limits.text_bytes
  pub names : length d.names ≤ d.limits.names
  pub name_bytes : length (joined entry_bytes d.names) ≤ d.limits.name_bytes
  pub generations : (i : ℕ) → i < length d.gens → get_or d.gens i 0 < 4294967296
  pub nodes : (i : ℕ) → even (generation_at d i) ≡ true → is_some (get_or d.kinds i None) ≡ true
  pub order_words : (i : ℕ) → i < length d.gens → get_or d.order i 0 < 4294967296
  pub capacities : (w : Which) (i : ℕ) → i < (d.arenas w).used → get_or (d.arenas w).caps i 0 < 4294967296
  pub root_generation : generation_at d 0 ≡ 0
  pub root_kind : get_or d.kinds 0 None ≡ Some root
  pub root_parent : parent_in d 0 ≡ None
  pub root_only : (i : ℕ) → live_slot d i ≡ true → is_root (kind_in d i) ≡ true → i ≡ 0

-- 2. "The free list holds every odd-generation slot once and no other."
pub record FreeList (d : Doc) : Type 0 where
  pub inside : (i : ℕ) → i < length d.free → get_or d.free i 0 < length d.gens
  pub once : (s : ℕ) → s < length d.gens → count_of (eqb s) d.free ≡ get_or d.gens s 0 % 2

-- 3. "Attributes and namespaces have a live element as parent. Others have a live Root or element, or none (detached)."
pub record Parents (d : Doc) : Type 0 where
  pub owner : (i p : ℕ) → live_slot d i ≡ true → parent_in d i ≡ Some p → (resolves d p ≡ true) × (owns (which_of (kind_in d i)) (kind_at d p) ≡ true)
  pub detached : (i : ℕ) → live_slot d i ≡ true → parent_in d i ≡ None → which_of (kind_in d i) ≡ children

-- 4. "A live node with a parent is in just one entry of that parent's block of its kind; no live node's block has another entry."
pub record Entries (d : Doc) : Type 0 where
  pub one : (i p : ℕ) → live_slot d i ≡ true → parent_in d i ≡ Some p → count_of (eqb (handle_at d i)) (list_at d (which_of (kind_in d i)) p) ≡ 1
  pub no_other : (w : Which) (i h : ℕ) → live_slot d i ≡ true → Memᴰ h (list_in d w i)
      → (resolves d h ≡ true) × (parent_at d h ≡ Some (handle_at d i)) × (which_of (kind_at d h) ≡ w)

-- 5. "Non-empty blocks with their capacities lie inside the arena and don't overlap. An empty block's start is at most the arena's length."
-- the block of a slot: a live node's; a free slot has none
abbrev pub block_in : Doc → Which → ℕ → Block
block_in d w i = cond (live_slot d i) (range_in d w i) (block 0 0)

abbrev pub Blocks : Doc → Type 0
Blocks d = (w : Which) → BlocksApart (d.arenas w) (block_in d w)

-- 6. "Following parents always ends."
pub data Ends (d : Doc) : ℕ → Type 0 where
  top : {i : ℕ} → parent_in d i ≡ None → Ends d i
  up : {i : ℕ} (p : ℕ) → parent_in d i ≡ Some p → Ends d (handle_index p) → Ends d i

abbrev pub ParentsEnd : Doc → Type 0
ParentsEnd d = (i : ℕ) → live_slot d i ≡ true → Ends d i

-- 7. "The Root has at most one element child."
abbrev pub OneRootElement : Doc → Type 0
OneRootElement d = count_of (λ c. is_element (kind_at d c)) (list_in d children 0) ≤ 1

-- 8. "Every pool text slot belongs to one field of one live node, or is in the free text list once with length 0; text and name lengths
-- add to the bytes used; name numbers are below the name count."
-- the text slots that the live nodes' fields hold
abbrev pub slots_held : List (Option ℕ) → List ℕ
slots_held [] = []
slots_held (None ∷ l) = slots_held l
slots_held (Some s ∷ l) = s ∷ slots_held l

abbrev pub held_in : Doc → ℕ → List ℕ
held_in d i = cond (live_slot d i) (slots_held (texts_of (kind_in d i))) []

abbrev pub held : Doc → List ℕ
held d = joined (held_in d) (tabulate (λ i. i) (length d.gens))

pub record Texts (d : Doc) : Type 0 where
  pub lengths : d.lengths_fit ≡ true
  pub once : (s : ℕ) → s < length d.pool.texts → count_of (eqb s) (held d) + count_of (eqb s) d.pool.free ≡ 1
  pub inside : (s : ℕ) → length d.pool.texts ≤ s → count_of (eqb s) (held d) + count_of (eqb s) d.pool.free ≡ 0
  pub emptied : (s : ℕ) → 0 < count_of (eqb s) d.pool.free → get_or d.pool.texts s [] ≡ []
  pub names : (i n : ℕ) → live_slot d i ≡ true → Memᴰ n (names_of (kind_in d i)) → n < length d.names

-- The eight rules.
pub record Rules (d : Doc) : Type 0 where
  pub fields : CountsAndFields d
  pub free_list : FreeList d
  pub parents : Parents d
  pub entries : Entries d
  pub blocks : Blocks d
  pub parents_end : ParentsEnd d
  pub one_root_element : OneRootElement d
  pub texts : Texts d
