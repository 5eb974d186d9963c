-- The structure rules as a test, one function for each record of `Rules` and in its order. Damaged is answered exactly where it fails.
use Rattle.std.specs.Prelude.{Bool, true, false, not, ◌&&◌, ◌||◌, [], ℕ, zero, suc, ◌+◌, ◌%◌, length, get_or, eqb, leb, ltb, Option, None, Some}
use Rattle.words.specs.Lists.{count_of, all, all_below, joined}
use Rattle.blocks.specs.Arena.{Arena, Block, cap_of}
use Rattle.texts.specs.Pool.{bytes_of}
use Rattle.names.specs.Table.{entry_bytes}
use Rattle.records.specs.Handles.{handle_index}
use Rattle.model.specs.Kinds.{Which, children, attributes, namespaces, same_which, is_element, is_root, owns, which_of, names_of}
use Rattle.model.specs.Doc.{Doc, generation_at, live_slot, handle_at, resolves, kind_in, kind_at, parent_in, parent_at, list_in, list_at, even, is_some, is_none, any_option}
use Rattle.model.specs.Rules.{block_in, held}

-- ---- quantifiers

abbrev pub implies : Bool → Bool → Bool
implies a b = not a || b

abbrev pub all_option : {A : Type 0} → (A → Bool) → Option A → Bool
all_option p None = true
all_option p (Some a) = p a

unfoldable pub all_which : (Which → Bool) → Bool
all_which p = p children && p attributes && p namespaces

-- the slots made, and those of them that are live
unfoldable pub all_slots : Doc → (ℕ → Bool) → Bool
all_slots d p = all_below p (length d.gens)

unfoldable pub all_live : Doc → (ℕ → Bool) → Bool
all_live d p = all_below (λ i. implies (live_slot d i) (p i)) (length d.gens)

-- a field of 32 bits
abbrev pub fits_field : ℕ → Bool
fits_field n = ltb n 4294967296

-- ---- 1. "Counts are within limits, words within their fields. Slot 0 is the only live Root: generation 0, no parent."

unfoldable pub counts_within : Doc → Bool
counts_within d =
    d.counts_fit && leb (length d.gens) d.limits.nodes
    && leb (length d.pool.texts) d.limits.texts && leb (length (bytes_of d.pool.texts)) d.limits.text_bytes
    && leb (length d.names) d.limits.names && leb (length (joined entry_bytes d.names)) d.limits.name_bytes

unfoldable pub words_within : Doc → Bool
words_within d =
    all_slots d (λ i. fits_field (get_or d.gens i 0))
    && all_slots d (λ i. implies (even (generation_at d i)) (is_some (get_or d.kinds i None)))
    && all_slots d (λ i. fits_field (get_or d.order i 0))
    && all_which (λ w. all_below (λ i. fits_field (get_or (d.arenas w).caps i 0)) (d.arenas w).used)

unfoldable pub one_root : Doc → Bool
one_root d =
    eqb (generation_at d 0) 0 && any_option is_root (get_or d.kinds 0 None) && is_none (parent_in d 0)
    && all_live d (λ i. implies (is_root (kind_in d i)) (eqb i 0))

unfoldable pub counts_and_fields_hold : Doc → Bool
counts_and_fields_hold d = counts_within d && words_within d && one_root d

-- ---- 2. "The free list holds every odd-generation slot once and no other."

unfoldable pub free_list_holds : Doc → Bool
free_list_holds d =
    all (λ s. ltb s (length d.gens)) d.free
    && all_slots d (λ s. eqb (count_of (eqb s) d.free) (get_or d.gens s 0 % 2))

-- ---- 3. "Attributes and namespaces have a live element as parent. Others have a live Root or element, or none (detached)."

abbrev pub parent_holds : Doc → ℕ → Option ℕ → Bool
parent_holds d i None = same_which (which_of (kind_in d i)) children
parent_holds d i (Some p) = resolves d p && owns (which_of (kind_in d i)) (kind_at d p)

unfoldable pub parents_hold : Doc → Bool
parents_hold d = all_live d (λ i. parent_holds d i (parent_in d i))

-- ---- 4. "A live node with a parent is in just one entry of that parent's block of its kind; no live node's block has another entry."

abbrev pub entered_once : Doc → ℕ → ℕ → Bool
entered_once d i p = eqb (count_of (eqb (handle_at d i)) (list_at d (which_of (kind_in d i)) p)) 1

-- the entry h of slot i's list: a live node of the list's kind whose parent is that slot's node
abbrev pub entry_holds : Doc → Which → ℕ → ℕ → Bool
entry_holds d w i h = resolves d h && any_option (eqb (handle_at d i)) (parent_at d h) && same_which (which_of (kind_at d h)) w

unfoldable pub entries_hold : Doc → Bool
entries_hold d =
    all_live d (λ i. all_option (entered_once d i) (parent_in d i))
    && all_which (λ w. all_live d (λ i. all (entry_holds d w i) (list_in d w i)))

-- ---- 5. "Non-empty blocks with their capacities lie inside the arena and don't overlap. An empty block's start is at most the arena's length."

abbrev pub block_inside : Arena → Block → Bool
block_inside a b = leb (b.start + cap_of a b) a.used

abbrev pub blocks_apart : Arena → Block → Block → Bool
blocks_apart a b c =
    eqb b.len 0 || eqb c.len 0 || leb (b.start + cap_of a b) c.start || leb (c.start + cap_of a c) b.start

unfoldable pub arena_holds : Doc → Which → Bool
arena_holds d w =
    leb (d.arenas w).used (length (d.arenas w).ids)
    && all_slots d (λ i. block_inside (d.arenas w) (block_in d w i))
    && all_slots d (λ i. all_below (λ j. blocks_apart (d.arenas w) (block_in d w i) (block_in d w j)) i)

unfoldable pub blocks_hold : Doc → Bool
blocks_hold d = all_which (arena_holds d)

-- ---- 6. "Following parents always ends.": a path that ends meets no slot twice, so the number of slots is steps enough

abbrev pub ends_within : ℕ → Doc → ℕ → Bool
ends_within zero d i = false
ends_within (suc f) d i = all_option (λ p. ends_within f d (handle_index p)) (parent_in d i)

unfoldable pub parents_end_holds : Doc → Bool
parents_end_holds d = all_live d (ends_within (length d.gens) d)

-- ---- 7. "The Root has at most one element child."

unfoldable pub one_root_element_holds : Doc → Bool
one_root_element_holds d = leb (count_of (λ c. is_element (kind_at d c)) (list_in d children 0)) 1

-- ---- 8. "Every pool text slot belongs to one field of one live node, or is in the free text list once with length 0; text and name
-- lengths add to the bytes used; name numbers are below the name count."

unfoldable pub texts_hold : Doc → Bool
texts_hold d =
    let made = length d.pool.texts in
    d.lengths_fit
    && all_below (λ s. eqb (count_of (eqb s) (held d) + count_of (eqb s) d.pool.free) 1) made
    && all (λ s. ltb s made) (held d)
    && all (λ s. ltb s made && eqb (length (get_or d.pool.texts s [])) 0) d.pool.free
    && all_live d (λ i. all (λ n. ltb n (length d.names)) (names_of (kind_in d i)))

-- ---- the eight rules

unfoldable pub eight_hold : Doc → Bool
eight_hold d =
    counts_and_fields_hold d && free_list_holds d && parents_hold d && entries_hold d
    && blocks_hold d && parents_end_holds d && one_root_element_holds d && texts_hold d

-- ---- all rules: one that a request adds is a conjunct behind the eight, here, a field of `Rules`, and a test in `check_structure`

unfoldable pub rules_hold : Doc → Bool
rules_hold d = eight_hold d
