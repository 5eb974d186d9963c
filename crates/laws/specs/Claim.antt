-- Demand 3 over the document: one claim about every list of calls, from a fresh document on. This file, `Tree` (the plain tree) and `Calls`
-- (the calls) are what its reader has to read.
use Rattle.std.specs.Prelude.{◌≡◌, Bool, true, false, cond, ℕ, zero, suc, ◌+◌, ◌<◌, eqb, length, get_or, Option, None, Some}
use mathlib.Core.List.{List, [], ◌∷◌, map, Memᴰ}
use Rattle.words.specs.Lists.{any}
use Rattle.records.specs.Handles.{handle_index}
use Rattle.names.specs.Table.{Name}
use Rattle.model.specs.Kinds.{Which, attributes, map_kind}
use Rattle.model.specs.Doc.{Doc, Limits, limits_ok, fresh, root_handle, no_key, or_else, map_option, resolves, live_slot, node_at, parent_at, pair_at, shown_list}
use Rattle.model.specs.Calls.{Answer, refused, done, made, truth, node, listed, every_node, kind_is, name_is, key, keys, Answered, order_key, Call, append-element, append-text, append-comment, append-pi, set-text, set-attribute, remove-attribute, declare-namespace, remove, detach, reparent, insert-at, document-order, compact, root-of, kind-of, parent-of, children-of, root-element, is-element, name_of, attribute-nodes, namespace-nodes, nodes, order-key}
use Rattle.model.specs.Calls as calls
use Rattle.model.specs.Rules.{Rules}
use Rattle.model.specs.Tree.{Tree, TreeAnswer, seed, key_in}
use Rattle.model.specs.Tree as tree

-- ---- what the plain tree is fed

-- "each birth's handle: the one answered (the Root's by `root`), or where none is, the last in the list that the new node joined, read right after"
abbrev pub last_of : List ℕ → ℕ
last_of [] = 0
last_of (x ∷ []) = x
last_of (x ∷ y ∷ l) = last_of (y ∷ l)

abbrev pub answered_handle : Answered → ℕ
answered_handle (refused n) = 0
answered_handle done = 0
answered_handle (made h) = h
answered_handle (truth b) = 0
answered_handle (node h) = 0
answered_handle (listed r l) = 0
answered_handle (every_node l) = 0
answered_handle (kind_is k a n) = 0
answered_handle (name_is n) = 0
answered_handle (key k) = 0
answered_handle (keys l) = 0

abbrev pub joined_list : Call → Option ℕ
joined_list (append-element p ns local) = None
joined_list (append-text p s) = None
joined_list (append-comment p s) = None
joined_list (append-pi p s t) = None
joined_list (set-text h s) = None
joined_list (set-attribute e ns local value) = Some e
joined_list (remove-attribute e ns local) = None
joined_list (declare-namespace e prefix uri) = None
joined_list (remove h) = None
joined_list (detach h) = None
joined_list (reparent c p) = None
joined_list (insert-at p i c) = None
joined_list document-order = None
joined_list compact = None
joined_list root-of = None
joined_list (kind-of h) = None
joined_list (parent-of h) = None
joined_list (children-of h) = None
joined_list root-element = None
joined_list (is-element h) = None
joined_list (name_of n) = None
joined_list (attribute-nodes h) = None
joined_list (namespace-nodes h) = None
joined_list nodes = None
joined_list (order-key h) = None

abbrev pub handle_told_from : Option ℕ → calls.Out → ℕ
handle_told_from None o = answered_handle o.answer
handle_told_from (Some e) o = last_of (shown_list o.doc attributes e)

abbrev pub handle_told : Call → calls.Out → ℕ
handle_told c o = handle_told_from (joined_list c) o

-- "4 and 14 are no step; any other refusal is the tree's own and changes nothing." (4 comes before the calls on the document.) A request's numbers of this kind stand here.
abbrev pub no_steps : List ℕ
no_steps = 4 ∷ 14 ∷ []

abbrev pub no_step : Answered → Bool
no_step (refused n) = any (eqb n) no_steps
no_step done = false
no_step (made h) = false
no_step (truth b) = false
no_step (node h) = false
no_step (listed r l) = false
no_step (every_node l) = false
no_step (kind_is k a n) = false
no_step (name_is n) = false
no_step (key k) = false
no_step (keys l) = false

-- the plain tree after a call
abbrev pub tree_after : (ℕ → ℕ) → Call → Doc → Tree → Tree
tree_after hs c d t = cond (no_step (calls.step c d).answer) t (tree.step c hs t).tree

-- hs gives the handle of each birth of the list
abbrev pub Tells : (ℕ → ℕ) → List Call → Doc → Tree → Type 0
Tells hs [] d t = Unit {0}
Tells hs (c ∷ cs) d t =
    (t.births < (tree_after hs c d t).births → hs t.births ≡ handle_told c (calls.step c d))
    × Tells hs cs (calls.step c d).doc (tree_after hs c d t)

-- ---- how answers are compared

-- "a name as the pair that `name` shows for its number"; "block ranges .. are not in this tree"
abbrev pub shown : Doc → Answered → Answer ℕ Name (Unit {0})
shown d (refused n) = refused n
shown d done = done
shown d (made h) = made h
shown d (truth b) = truth b
shown d (node h) = node h
shown d (listed r l) = listed tt l
shown d (every_node l) = every_node l
shown d (kind_is k a n) = kind_is (map_option (map_kind (pair_at d) (λ s. s)) k) tt tt
shown d (name_is n) = name_is n
shown d (key k) = key k
shown d (keys l) = keys l

-- "a handle as its birth"
abbrev pub through_handles : (ℕ → ℕ) → TreeAnswer → Answer ℕ Name (Unit {0})
through_handles hs (refused n) = refused n
through_handles hs done = done
through_handles hs (made b) = made (hs b)
through_handles hs (truth b) = truth b
through_handles hs (node b) = node (map_option hs b)
through_handles hs (listed r l) = listed tt (map hs l)
through_handles hs (every_node l) = every_node (map hs l)
through_handles hs (kind_is k a n) = kind_is k tt tt
through_handles hs (name_is n) = name_is n
through_handles hs (key k) = key k
through_handles hs (keys l) = keys l

-- "`document_order` node by node": one word a slot, a live node's its key, or 4,294,967,295 where it is outside or the slot is free
pub record KeysAgree (hs : ℕ → ℕ) (d : Doc) (t : Tree) (words : List ℕ) : Type 0 where
  pub slots : length words ≡ length d.gens
  pub live : (b : ℕ) → t.live b ≡ true → get_or words (handle_index (hs b)) 0 ≡ or_else no_key (key_in t b)
  pub free : (i : ℕ) → i < length words → live_slot d i ≡ false → get_or words i 0 ≡ no_key

-- "`nodes` as a set"
pub record SameNodes (hs : ℕ → ℕ) (t : Tree) (handles : List ℕ) : Type 0 where
  pub all : (b : ℕ) → t.live b ≡ true → Memᴰ (hs b) handles
  pub only : (h : ℕ) → Memᴰ h handles → (b : ℕ) × (t.live b ≡ true) × (hs b ≡ h)

-- every other answer as it is; the call `name` is not compared with the tree
abbrev pub Agrees : (ℕ → ℕ) → Call → calls.Out → tree.Out → Type 0
Agrees hs (append-element p ns local) o u = shown o.doc o.answer ≡ through_handles hs u.answer
Agrees hs (append-text p s) o u = shown o.doc o.answer ≡ through_handles hs u.answer
Agrees hs (append-comment p s) o u = shown o.doc o.answer ≡ through_handles hs u.answer
Agrees hs (append-pi p s s₁) o u = shown o.doc o.answer ≡ through_handles hs u.answer
Agrees hs (set-text h s) o u = shown o.doc o.answer ≡ through_handles hs u.answer
Agrees hs (set-attribute e ns local value) o u = shown o.doc o.answer ≡ through_handles hs u.answer
Agrees hs (remove-attribute e ns local) o u = shown o.doc o.answer ≡ through_handles hs u.answer
Agrees hs (declare-namespace e prefix uri) o u = shown o.doc o.answer ≡ through_handles hs u.answer
Agrees hs (remove h) o u = shown o.doc o.answer ≡ through_handles hs u.answer
Agrees hs (detach h) o u = shown o.doc o.answer ≡ through_handles hs u.answer
Agrees hs (reparent c p) o u = shown o.doc o.answer ≡ through_handles hs u.answer
Agrees hs (insert-at p i c) o u = shown o.doc o.answer ≡ through_handles hs u.answer
Agrees hs document-order o u = (words : List ℕ) × (o.answer ≡ keys words) × KeysAgree hs o.doc u.tree words
Agrees hs compact o u = shown o.doc o.answer ≡ through_handles hs u.answer
Agrees hs root-of o u = shown o.doc o.answer ≡ through_handles hs u.answer
Agrees hs (kind-of h) o u = shown o.doc o.answer ≡ through_handles hs u.answer
Agrees hs (parent-of h) o u = shown o.doc o.answer ≡ through_handles hs u.answer
Agrees hs (children-of h) o u = shown o.doc o.answer ≡ through_handles hs u.answer
Agrees hs root-element o u = shown o.doc o.answer ≡ through_handles hs u.answer
Agrees hs (is-element h) o u = shown o.doc o.answer ≡ through_handles hs u.answer
Agrees hs (name_of n) o u = Unit {0}
Agrees hs (attribute-nodes h) o u = shown o.doc o.answer ≡ through_handles hs u.answer
Agrees hs (namespace-nodes h) o u = shown o.doc o.answer ≡ through_handles hs u.answer
Agrees hs nodes o u = (handles : List ℕ) × (o.answer ≡ every_node handles) × SameNodes hs u.tree handles
Agrees hs (order-key h) o u = shown o.doc o.answer ≡ through_handles hs u.answer

-- ---- the claim

-- how many of the first n births are gone
abbrev pub gone_below : (ℕ → Bool) → ℕ → ℕ
gone_below live zero = 0
gone_below live (suc n) = cond (live n) 0 1 + gone_below live n

abbrev pub freed : Tree → ℕ
freed t = gone_below t.live t.births

-- What holds at every place of the list.
pub record Explains (hs : ℕ → ℕ) (d : Doc) (t : Tree) : Type 0 where
  -- "No call was refused Damaged": the next one finds every structure rule kept
  pub rules : Rules d
  -- (`ResolvesAsAnswered` says that `resolves` is 01's) "A handle resolves exactly when it is the root's or was made in that list for a node not since freed."
  pub resolving : (b : ℕ) → t.live b ≡ true → resolves d (hs b) ≡ true
  pub resolved : (h : ℕ) → resolves d h ≡ true → (b : ℕ) × (b < t.births) × (t.live b ≡ true) × (hs b ≡ h)
  -- "No two nodes, the root among them, were given equal handles": while fewer than 2,147,483,648 nodes were freed
  pub different : freed t < 2147483648 → (a b : ℕ) → a < t.births → b < t.births → hs a ≡ hs b → a ≡ b
  -- "each live node's kind, name, texts, parent, three lists and order key equal that tree's"
  pub kind : (b : ℕ) → t.live b ≡ true → node_at d (hs b) ≡ t.kind b
  pub parent : (b : ℕ) → t.live b ≡ true → parent_at d (hs b) ≡ map_option hs (t.parent b)
  pub lists : (w : Which) (b : ℕ) → t.live b ≡ true → shown_list d w (hs b) ≡ map hs (t.lists w b)
  pub order_key : (b : ℕ) → t.live b ≡ true → calls.order_key d (hs b) ≡ cond t.current (key (key_in t b)) (refused 15)

-- At every place the document is explained, and each answer but 14 is the plain tree's.
abbrev pub Claim : (ℕ → ℕ) → List Call → Doc → Tree → Type 0
Claim hs [] d t = Explains hs d t
Claim hs (c ∷ cs) d t =
    Explains hs d t
    × (no_step (calls.step c d).answer ≡ false → Agrees hs c (calls.step c d) (tree.step c hs t))
    × Claim hs cs (calls.step c d).doc (tree_after hs c d t)

-- Demand 3 over the document: handles can be told for every list of calls, and whenever they are told, the claim holds.
pub record PlainTree (l : Limits) (cs : List Call) : Type 0 where
  pub told : (hs : ℕ → ℕ) × (hs 0 ≡ root_handle) × Tells hs cs (fresh l) seed
  pub claim : (hs : ℕ → ℕ) → hs 0 ≡ root_handle → Tells hs cs (fresh l) seed → Claim hs cs (fresh l) seed

abbrev pub DemandThree : Type 0
DemandThree = (l : Limits) → limits_ok l ≡ true → (cs : List Call) → PlainTree l cs
