-- The small edits of a document; every call is made of them (`Calls`).
use Rattle.std.specs.Prelude.{Bool, true, false, cond, List, [], ◌∷◌, ◌++◌, reverse, ℕ, zero, suc, ◌+◌, ◌%◌, length, get_or, set, drop, replicate, Option, None, Some}
use Rattle.words.specs.Lists.{joined, keep}
use Rattle.blocks.specs.Arena.{Arena, Block, block, Edit, inserted, removed, laid}
use Rattle.records.specs.Handles.{handle_index}
use Rattle.texts.specs.Pool.{Pool, released}
use Rattle.names.specs.Table.{Name}
use Rattle.model.specs.Kinds.{Kind, Which, children, attributes, namespaces, same_which, which_of, is_element, texts_of}
use Rattle.model.specs.Doc.{Doc, change_slots, change_nodes, change_arenas, change_order, change_current, change_pool, change_names, handle_word, root_handle, no_key, generation_at, live_nodes, kind_at, parent_at, range_in, list_at, is_none}

abbrev pub update_which : {A : Type 0} → (Which → A) → Which → A → Which → A
update_which f w v x = cond (same_which x w) v (f x)

-- ---- one column changed

-- a block edited: the owner's range and the arena; the order stops being current
abbrev pub set_block : Doc → Which → ℕ → Edit → Doc
set_block d w i e =
    let ranges = update_which d.ranges w (set (d.ranges w) i e.block) in
    change_current (change_arenas (change_nodes d d.kinds d.parents ranges) (update_which d.arenas w e.arena)) false

unfoldable pub set_parent : Doc → ℕ → Option ℕ → Doc
set_parent d h p = change_current (change_nodes d d.kinds (set d.parents (handle_index h) p) d.ranges) false

-- a node's kind and the pool changed: a replaced text, which leaves the order current
unfoldable pub set_kind : Doc → ℕ → Kind ℕ (Option ℕ) → Pool → Doc
set_kind d h k p = change_pool (change_nodes d (set d.kinds (handle_index h) (Some k)) d.parents d.ranges) p

-- ---- slots: "On freeing and on reuse a generation goes up by one, and from 4,294,967,295 to 0."

abbrev pub up : ℕ → ℕ
up g = (g + 1) % 4294967296

-- "Free slots .. are reused last freed first"; a new slot only when none is free
abbrev pub next_from : List ℕ → Doc → ℕ
next_from [] d = handle_word (length d.gens) 0
next_from (i ∷ l) d = handle_word i (up (generation_at d i))

abbrev pub next_handle : Doc → ℕ
next_handle d = next_from d.free d

-- a new node in no list yet, all its blocks (0, 0) and without a key, with the pool and the names that hold what it shows
abbrev pub born_from : List ℕ → Doc → Kind ℕ (Option ℕ) → Pool → List (Option Name) → Doc
born_from [] d k p n =
    let nodes = change_nodes d (d.kinds ++ (Some k ∷ [])) (d.parents ++ (None ∷ [])) (λ w. d.ranges w ++ (block 0 0 ∷ [])) in
    let slots = change_slots nodes (d.gens ++ (0 ∷ [])) [] in
    change_names (change_pool (change_order slots (set d.order (length d.gens) no_key) false) p) n
born_from (i ∷ l) d k p n =
    let nodes = change_nodes d (set d.kinds i (Some k)) (set d.parents i None) (λ w. set (d.ranges w) i (block 0 0)) in
    let slots = change_slots nodes (set d.gens i (up (generation_at d i))) l in
    change_names (change_pool (change_order slots (set d.order i no_key) false) p) n

unfoldable pub born : Doc → Kind ℕ (Option ℕ) → Pool → List (Option Name) → Doc
born d k p n = born_from d.free d k p n

-- ---- blocks

unfoldable pub link : Doc → Which → ℕ → ℕ → ℕ → Doc
link d w p i h = set_block d w (handle_index p) (inserted (d.arenas w) (range_in d w (handle_index p)) i h)

abbrev pub unlink_from : Option ℕ → Doc → ℕ → Doc
unlink_from None d h = d
unlink_from (Some p) d h =
    let w = which_of (kind_at d h) in
    set_block d w (handle_index p) (removed (d.arenas w) (range_in d w (handle_index p)) h)

unfoldable pub unlink : Doc → ℕ → Doc
unlink d h = unlink_from (parent_at d h) d h

-- a node without a parent goes under p at index i; a node is taken off its parent, if it has one
abbrev pub attach : Doc → Which → ℕ → ℕ → ℕ → Doc
attach d w p i h = link (set_parent d h (Some p)) w p i h

abbrev pub unhook : Doc → ℕ → Doc
unhook d h = set_parent (unlink d h) h None

-- ---- freeing

-- a walk with a stack, its top first: each item is visited, then what follows it goes on top
abbrev pub walk : {A : Type 0} → (A → List A) → ℕ → List A → List A
walk next zero s = []
walk next (suc f) [] = []
walk next (suc f) (x ∷ s) = x ∷ walk next f (next x ++ s)

-- "`free_subtree` pushes children, attributes, namespaces, pops from the end, and frees each after pushing its own."
abbrev pub pushed_by : Doc → ℕ → List ℕ
pushed_by d h = reverse (list_at d children h ++ (list_at d attributes h ++ list_at d namespaces h))

abbrev pub subtree : Doc → ℕ → List ℕ
subtree d h = walk (pushed_by d) (length d.gens) (h ∷ [])

abbrev pub raised_all : List ℕ → List ℕ → List ℕ
raised_all gens [] = gens
raised_all gens (h ∷ l) = raised_all (set gens (handle_index h) (up (get_or gens (handle_index h) 1))) l

abbrev pub freed_all : List ℕ → List ℕ → List ℕ
freed_all free [] = free
freed_all free (h ∷ l) = freed_all (handle_index h ∷ free) l

abbrev pub released_all : Pool → List (Option ℕ) → Pool
released_all p [] = p
released_all p (t ∷ l) = released_all (released p t) l

-- the nodes are freed in this order, each releasing its texts at once
unfoldable pub free_all : Doc → List ℕ → Doc
free_all d l =
    change_pool (change_current (change_slots d (raised_all d.gens l) (freed_all d.free l)) false) (released_all d.pool (joined (λ h. texts_of (kind_at d h)) l))

-- ---- order: "node, its namespaces, its attributes, then its children's subtrees"

abbrev pub ordered : Doc → List ℕ
ordered d =
    joined (λ h. h ∷ (list_at d namespaces h ++ list_at d attributes h))
    (walk (λ h. list_at d children h) (length d.gens) (root_handle ∷ []))

-- "Keys count from 0 at the Root"
abbrev pub keyed : List ℕ → ℕ → List ℕ → List ℕ
keyed words n [] = words
keyed words n (h ∷ l) = keyed (set words (handle_index h) n) (suc n) l

unfoldable pub order_of : Doc → List ℕ
order_of d = keyed (replicate (length d.gens) no_key ++ drop (length d.gens) d.order) 0 (ordered d)

unfoldable pub renew_order : Doc → Doc
renew_order d = change_order d (order_of d) true

-- ---- compaction

-- "`compact` rebuilds from parentless nodes in slot order": the live nodes without a parent, then each with its children's subtrees
abbrev pub tops : Doc → List ℕ
tops d = keep (λ h. is_none (parent_at d h)) (live_nodes d)

abbrev pub rebuilt : Doc → List ℕ
rebuilt d = joined (λ top. walk (λ h. list_at d children h) (length d.gens) (top ∷ [])) (tops d)

-- the arenas and ranges being rebuilt (`Arenas` of the source): lists of one arena laid end to end
pub record Laying : Type 0 where
  pub arena : Arena
  pub ranges : List Block

abbrev pub lay_list : Laying → ℕ → List ℕ → Laying
lay_list a i l =
    let e = laid a.arena l in
    record { arena = e.arena; ranges = set a.ranges i e.block }

-- each node met, in turn, has its list copied; attributes and namespaces only elements have
abbrev pub lay_all : Doc → Which → List ℕ → Laying → Laying
lay_all d w [] a = a
lay_all d w (h ∷ l) a = lay_all d w l (lays w (is_element (kind_at d h)))
  where
    lays : Which → Bool → Laying
    lays children e = lay_list a (handle_index h) (list_at d children h)
    lays attributes true = lay_list a (handle_index h) (list_at d attributes h)
    lays attributes false = a
    lays namespaces true = lay_list a (handle_index h) (list_at d namespaces h)
    lays namespaces false = a

-- nothing laid yet: all capacity records cleared
abbrev pub laying_from : Doc → Which → Laying
laying_from d w =
    record {
      arena = record { ids = (d.arenas w).ids; caps = replicate (length (d.arenas w).caps) 0; used = 0 };
      ranges = d.ranges w;
    }

abbrev pub laying : Doc → Which → Laying
laying d w = lay_all d w (rebuilt d) (laying_from d w)

unfoldable pub rebuild_arenas : Doc → Doc
rebuild_arenas d = change_current (change_arenas (change_nodes d d.kinds d.parents (λ w. (laying d w).ranges)) (λ w. (laying d w).arena)) false
