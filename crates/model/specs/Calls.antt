-- Every call as a function on the document: its answer by 01's numbers and values, and the document after. Tests 4 and 5 come before
-- these (`memory`); the rest, in the order 1, the Rust's own checks, 14, is here.
use Rattle.std.specs.Prelude.{Bool, true, false, not, ◌&&◌, cond, List, [], ◌∷◌, ℕ, zero, suc, ◌+◌, length, get_or, take, eqb, ltb, Option, None, Some}
use Rattle.words.specs.Lists.{find}
use Rattle.blocks.specs.Arena.{Block, block, has_room}
use Rattle.records.specs.Handles.{handle_index}
use Rattle.texts.specs.Pool.{Pool, stored_slot, stored, replaced_slot, replaced, slots_for, texts_fit}
use Rattle.words.specs.Pieces.{same_bytes}
use Rattle.names.specs.Table.{Name, name, same_name, number_of, interned, name_at, name_fits}
use Rattle.model.specs.Kinds.{Kind, element, attribute, text, comment, namespace, instruction, Which, children, attributes, namespaces, is_element, is_root, attribute_name, prefix_of, replaceable, with_text, map_kind}
use Rattle.model.specs.Doc.{Doc, root_handle, no_key, any_option, is_some, or_else, resolves, kind_at, parent_at, range_in, list_at, shown_block, shown_list, shown_parent, shows_element, pair_at, bytes_at, view_at, live_nodes, root_element, on_path}
use Rattle.model.specs.Edits.{next_handle, born, attach, unhook, set_kind, subtree, free_all, renew_order, rebuild_arenas}
use Rattle.model.specs.Arguments.{refuse_if, first}
use Rattle.model.specs.Checks.{check_append_element, check_append_text, check_append_comment, check_append_pi, check_set_text, check_set_attribute, check_remove_attribute, check_declare_namespace, check_remove, check_detach, check_move}

-- An answer. H are nodes (handles here, births in the plain tree), N names (numbers here, pairs there), R block ranges (which the plain tree has not).
pub data Answer (H N R : Type 0) : Type 0 where
  -- "A refusal returns its number alone"
  refused : ℕ → Answer H N R
  done : Answer H N R
  made : H → Answer H N R
  truth : Bool → Answer H N R
  node : Option H → Answer H N R
  listed : R → List H → Answer H N R
  every_node : List H → Answer H N R
  -- a kind, with the attribute and namespace ranges that an element shows
  kind_is : Option (Kind N (List ℕ)) → R → R → Answer H N R
  name_is : Option Name → Answer H N R
  key : Option ℕ → Answer H N R
  keys : List ℕ → Answer H N R

-- The editing and the reading calls; a handle is one word, an absent namespace or prefix is no byte.
pub data Call : Type 0 where
  append-element : ℕ → List ℕ → List ℕ → Call
  append-text : ℕ → List ℕ → Call
  append-comment : ℕ → List ℕ → Call
  append-pi : ℕ → List ℕ → List ℕ → Call
  set-text : ℕ → List ℕ → Call
  set-attribute : ℕ → List ℕ → List ℕ → List ℕ → Call
  remove-attribute : ℕ → List ℕ → List ℕ → Call
  declare-namespace : ℕ → List ℕ → List ℕ → Call
  remove : ℕ → Call
  detach : ℕ → Call
  reparent : ℕ → ℕ → Call
  insert-at : ℕ → ℕ → ℕ → Call
  document-order : Call
  compact : Call
  root-of : Call
  kind-of : ℕ → Call
  parent-of : ℕ → Call
  children-of : ℕ → Call
  root-element : Call
  is-element : ℕ → Call
  name_of : ℕ → Call
  attribute-nodes : ℕ → Call
  namespace-nodes : ℕ → Call
  nodes : Call
  order-key : ℕ → Call

abbrev pub Answered : Type 0
Answered = Answer ℕ ℕ Block

abbrev pub is_refusal : Answered → Bool
is_refusal (refused n) = true
is_refusal done = false
is_refusal (made h) = false
is_refusal (truth b) = false
is_refusal (node h) = false
is_refusal (listed r l) = false
is_refusal (every_node l) = false
is_refusal (kind_is k a n) = false
is_refusal (name_is n) = false
is_refusal (key k) = false
is_refusal (keys l) = false

-- the document after a call, and its answer
pub record Out : Type 0 where
  pub doc : Doc
  pub answer : Answered

abbrev pub answers : Doc → Answered → Out
answers d a = record { doc = d; answer = a }

-- a refusal changes nothing
unfoldable pub guarded : ℕ → Doc → Out → Out
guarded zero d o = o
guarded (suc n) d o = answers d (refused (suc n))

-- ---- Full, last: "exactly when the call, once its unlinking and the old text it replaces are counted off, needs more than the limits hold"

-- "a slot when none is free"
abbrev pub slot_fits_from : List ℕ → Doc → Bool
slot_fits_from [] d = ltb (length d.gens) d.limits.nodes
slot_fits_from (i ∷ l) d = true

abbrev pub slot_fits : Doc → Bool
slot_fits d = slot_fits_from d.free d

abbrev pub room_fits : Doc → Which → ℕ → Bool
room_fits d w p = has_room (d.arenas w) (range_in d w (handle_index p))

abbrev pub text_fits : Doc → ℕ → ℕ → ℕ → Bool
text_fits d k off on = texts_fit d.limits.texts d.limits.text_bytes d.pool k off on

abbrev pub name_fits_in : Doc → Name → Bool
name_fits_in d n = name_fits d.limits.names d.limits.name_bytes d.names n

abbrev pub node_fits : Doc → Which → ℕ → Bool
node_fits d w p = slot_fits d && room_fits d w p

-- the old text is counted off; a text field with a slot keeps it
abbrev pub replacement_fits : Doc → Option ℕ → List ℕ → Bool
replacement_fits d None t = text_fits d (slots_for t) 0 (length t)
replacement_fits d (Some s) t = text_fits d 0 (length (bytes_at d (Some s))) (length t)

abbrev pub full_unless : Bool → ℕ
full_unless fits = refuse_if (not fits) 14

-- ---- edits

-- a new node at the end of a list
abbrev pub appended : Doc → Which → ℕ → Kind ℕ (Option ℕ) → Pool → List (Option Name) → Doc
appended d w p k pool names =
    let e = born d k pool names in
    attach e w p (length (list_at e w p)) (next_handle d)

abbrev pub appends : Doc → ℕ → Kind ℕ (Option ℕ) → Pool → List (Option Name) → Out
appends d p k pool names = answers (appended d children p k pool names) (made (next_handle d))

-- a node's text replaced
abbrev pub with_replaced : Doc → ℕ → Option ℕ → List ℕ → Doc
with_replaced d h slot t =
    set_kind d h (with_text (kind_at d h) (replaced_slot d.pool slot t)) (replaced d.pool slot t)

abbrev pub replaceable_at : Doc → ℕ → Option ℕ
replaceable_at d h = or_else None (replaceable (kind_at d h))

-- `find_attribute`, by equal pairs, and `find_namespace_node`, by equal prefix bytes: the first in the list
abbrev pub has_name : Doc → Name → ℕ → Bool
has_name d n a = any_option (λ m. same_name n (pair_at d m)) (attribute_name (kind_at d a))

abbrev pub find_attribute : Doc → ℕ → Name → Option ℕ
find_attribute d e n = find (has_name d n) (list_at d attributes e)

abbrev pub has_prefix : Doc → List ℕ → ℕ → Bool
has_prefix d p a = any_option (λ t. same_bytes p (bytes_at d t)) (prefix_of (kind_at d a))

abbrev pub find_namespace : Doc → ℕ → List ℕ → Option ℕ
find_namespace d e p = find (has_prefix d p) (list_at d namespaces e)

-- the Root has an element child, other than this one
abbrev pub other_than : Option ℕ → Option ℕ → Bool
other_than None except = false
other_than (Some r) None = true
other_than (Some r) (Some c) = not (eqb r c)

abbrev pub root_taken : Doc → Option ℕ → Bool
root_taken d except = other_than (root_element d) except

abbrev pub under_root : Doc → ℕ → Bool
under_root d h = any_option (λ p. is_root (kind_at d p)) (parent_at d h)

abbrev pub append_element : Doc → ℕ → List ℕ → List ℕ → Out
append_element d p ns local =
    let n = name ns local in
    guarded
    (first (check_append_element ns local (view_at d p) (root_taken d None)) (full_unless (name_fits_in d n && node_fits d children p)))
    d
    (appends d p (element (number_of d.names n)) d.pool (interned d.names n))

-- a new node that holds one text
abbrev pub append_one_text : ℕ → Doc → ℕ → (Option ℕ → Kind ℕ (Option ℕ)) → List ℕ → Out
append_one_text check d p k t =
    guarded
    (first check (full_unless (text_fits d (slots_for t) 0 (length t) && node_fits d children p)))
    d
    (appends d p (k (stored_slot d.pool t)) (stored d.pool t) d.names)

-- two texts of one call: the slots of both, and the pool that holds both
abbrev pub two_fit : Doc → List ℕ → List ℕ → Bool
two_fit d s t = text_fits d (slots_for s + slots_for t) 0 (length s + length t)

abbrev pub with_two : Doc → (Option ℕ → Option ℕ → Kind ℕ (Option ℕ)) → List ℕ → List ℕ → Kind ℕ (Option ℕ)
with_two d k s t = k (stored_slot d.pool s) (stored_slot (stored d.pool s) t)

abbrev pub stored_two : Doc → List ℕ → List ℕ → Pool
stored_two d s t = stored (stored d.pool s) t

abbrev pub append_pi : Doc → ℕ → List ℕ → List ℕ → Out
append_pi d p target content =
    guarded
    (first (check_append_pi target content (view_at d p)) (full_unless (two_fit d target content && node_fits d children p)))
    d
    (appends d p (with_two d instruction target content) (stored_two d target content) d.names)

abbrev pub set_text : Doc → ℕ → List ℕ → Out
set_text d h t =
    guarded
    (first (check_set_text t (view_at d h) (under_root d h)) (full_unless (replacement_fits d (replaceable_at d h) t)))
    d
    (answers (with_replaced d h (replaceable_at d h) t) done)

-- an equal pair, or an equal prefix, replaces the text; else a new node
abbrev pub set_attribute_found : Option ℕ → Doc → ℕ → Name → List ℕ → Out
set_attribute_found (Some a) d e n value =
    guarded (full_unless (replacement_fits d (replaceable_at d a) value)) d (answers (with_replaced d a (replaceable_at d a) value) done)
set_attribute_found None d e n value =
    guarded
    (full_unless (name_fits_in d n && (text_fits d (slots_for value) 0 (length value) && node_fits d attributes e)))
    d
    (answers
    (appended d attributes e (attribute (number_of d.names n) (stored_slot d.pool value)) (stored d.pool value) (interned d.names n))
    done)

abbrev pub set_attribute : Doc → ℕ → List ℕ → List ℕ → List ℕ → Out
set_attribute d e ns local value =
    let found = find_attribute d e (name ns local) in
    guarded (check_set_attribute ns local value (view_at d e) (is_some found)) d (set_attribute_found found d e (name ns local) value)

abbrev pub declare_namespace_found : Option ℕ → Doc → ℕ → List ℕ → List ℕ → Out
declare_namespace_found (Some a) d e prefix uri =
    guarded (full_unless (replacement_fits d (replaceable_at d a) uri)) d (answers (with_replaced d a (replaceable_at d a) uri) (made a))
declare_namespace_found None d e prefix uri =
    guarded
    (full_unless (two_fit d prefix uri && node_fits d namespaces e))
    d
    (answers (appended d namespaces e (with_two d namespace prefix uri) (stored_two d prefix uri) d.names) (made (next_handle d)))

abbrev pub declare_namespace : Doc → ℕ → List ℕ → List ℕ → Out
declare_namespace d e prefix uri =
    guarded (check_declare_namespace prefix uri (view_at d e)) d (declare_namespace_found (find_namespace d e prefix) d e prefix uri)

-- unlink, then free it and all below
abbrev pub removed : Doc → ℕ → Doc
removed d h = let e = unhook d h in free_all e (subtree e h)

abbrev pub remove_attribute_found : Option ℕ → Doc → Out
remove_attribute_found None d = answers d (truth false)
remove_attribute_found (Some a) d = answers (removed d a) (truth true)

abbrev pub remove_attribute : Doc → ℕ → List ℕ → List ℕ → Out
remove_attribute d e ns local =
    guarded (check_remove_attribute ns local (view_at d e)) d (remove_attribute_found (find_attribute d e (name ns local)) d)

-- where a moved node goes: at an index, or at the end
abbrev pub move_to : Doc → ℕ → Option ℕ → ℕ → Out
move_to d p at c =
    let e = unhook d c in
    guarded
    (first
    (check_move (view_at d c) (view_at d p) (on_path (length d.gens) d c p) (root_taken d (Some c)))
    (full_unless (room_fits e children p)))
    d
    (answers (attach e children p (or_else (length (list_at e children p)) at) c) done)

-- ---- reading

abbrev pub lists : Doc → Which → ℕ → Answered
lists d w h = listed (shown_block d w h) (shown_list d w h)

abbrev pub key_of : ℕ → Option ℕ
key_of word = cond (ltb word no_key) (Some word) None

-- "`order_key` of a live handle is OrderStale while the order is not current .. a stale handle has no key, nor in a current order a node outside"
abbrev pub order_key : Doc → ℕ → Answered
order_key d h =
    cond (resolves d h) (cond d.current (key (key_of (get_or d.order (handle_index h) no_key))) (refused 15)) (key None)

-- a kind as shown: the name's number, the texts as bytes
abbrev pub shown_kind : Doc → ℕ → Answered
shown_kind d h =
    cond (resolves d h)
    (kind_is (Some (map_kind (λ n. n) (bytes_at d) (kind_at d h))) (shown_range attributes) (shown_range namespaces))
    (kind_is None (block 0 0) (block 0 0))
  where
    shown_range : Which → Block
    shown_range w = cond (is_element (kind_at d h)) (range_in d w (handle_index h)) (block 0 0)

-- "`document_order` has one word a slot"; it renews an order that isn't current
abbrev pub document_order : Doc → Out
document_order d =
    let e = cond d.current d (renew_order d) in
    answers e (keys (take (length e.gens) e.order))

-- ---- the calls

abbrev pub step : Call → Doc → Out
step (append-element p ns local) d = append_element d p ns local
step (append-text p t) d = append_one_text (check_append_text t (view_at d p)) d p text t
step (append-comment p t) d = append_one_text (check_append_comment t (view_at d p)) d p comment t
step (append-pi p target content) d = append_pi d p target content
step (set-text h t) d = set_text d h t
step (set-attribute e ns local value) d = set_attribute d e ns local value
step (remove-attribute e ns local) d = remove_attribute d e ns local
step (declare-namespace e prefix uri) d = declare_namespace d e prefix uri
step (remove h) d = guarded (check_remove (view_at d h)) d (answers (removed d h) done)
step (detach h) d = guarded (check_detach (view_at d h)) d (answers (unhook d h) done)
step (reparent c p) d = move_to d p None c
step (insert-at p i c) d = move_to d p (Some i) c
step document-order d = document_order d
step compact d = answers (renew_order (rebuild_arenas d)) done
step root-of d = answers d (made root_handle)
step (kind-of h) d = answers d (shown_kind d h)
step (parent-of h) d = answers d (node (shown_parent d h))
step (children-of h) d = answers d (lists d children h)
step root-element d = answers d (node (root_element d))
step (is-element h) d = answers d (truth (shows_element d h))
step (name_of n) d = answers d (name_is (name_at d.names n))
step (attribute-nodes h) d = answers d (lists d attributes h)
step (namespace-nodes h) d = answers d (lists d namespaces h)
step nodes d = answers d (every_node (live_nodes d))
step (order-key h) d = answers d (order_key d h)

-- the document and the answers after a list of calls
pub record Run : Type 0 where
  pub doc : Doc
  pub answers : List Answered

abbrev pub run : List Call → Doc → Run
run [] d = record { doc = d; answers = [] }
run (c ∷ cs) d = let o = step c d in let r = run cs o.doc in record { doc = r.doc; answers = o.answer ∷ r.answers }
