-- The plain tree (01, "The plain tree"): births with kinds, parents and lists. No slot, block, capacity, generation or number is in it.
use Rattle.std.specs.Prelude.{Bool, true, false, not, ◌&&◌, ◌||◌, cond, List, [], ◌∷◌, ◌++◌, ℕ, zero, suc, eqb, length, Option, None, Some}
use Rattle.words.specs.Lists.{insert_at, without, find, joined, keep, tabulate}
use Rattle.words.specs.Pieces.{same_bytes}
use Rattle.names.specs.Table.{Name, name, same_name}
use Rattle.model.specs.Kinds.{Kind, root, element, attribute, text, comment, namespace, instruction, Which, children, attributes, namespaces, which_of, is_element, is_root, attribute_name, prefix_of, with_text}
use Rattle.model.specs.Doc.{is_some, or_else, any_option, map_option}
use Rattle.model.specs.Edits.{update_which}
use Rattle.model.specs.Checks.{View, check_append_element, check_append_text, check_append_comment, check_append_pi, check_set_text, check_set_attribute, check_remove_attribute, check_declare_namespace, check_remove, check_detach, check_move}
use Rattle.model.specs.Calls.{Answer, refused, done, made, truth, node, listed, every_node, kind_is, key, other_than, Call, append-element, append-text, append-comment, append-pi, set-text, set-attribute, remove-attribute, declare-namespace, remove, detach, reparent, insert-at, document-order, compact, root-of, kind-of, parent-of, children-of, root-element, is-element, name_of, attribute-nodes, namespace-nodes, nodes, order-key}

-- "Nodes have birth numbers, the Root 0. Each has kind, (namespace, local) pair or byte texts, parent or none, lists of children,
-- attributes, namespaces, and live or gone."
pub record Tree : Type 0 where
  pub births : ℕ
  pub live : ℕ → Bool
  pub kind : ℕ → Kind Name (List ℕ)
  pub parent : ℕ → Option ℕ
  pub lists : Which → ℕ → List ℕ
  pub current : Bool

-- "The order is current when fresh"
abbrev pub seed : Tree
seed = record { births = 1; live = λ b. eqb b 0; kind = λ b. root; parent = λ b. None; lists = λ w b. []; current = true }

abbrev pub update : {A : Type 0} → (ℕ → A) → ℕ → A → ℕ → A
update f i v x = cond (eqb x i) v (f x)

-- "A handle means the birth at which it was made, while that lives; any other is Stale." hs gives each birth's handle.
abbrev pub live_below : (ℕ → Bool) → (ℕ → ℕ) → ℕ → ℕ → Option ℕ
live_below live hs h zero = None
live_below live hs h (suc n) = cond (live n && eqb (hs n) h) (Some n) (live_below live hs h n)

abbrev pub means : Tree → (ℕ → ℕ) → ℕ → Option ℕ
means t hs h = live_below t.live hs h t.births

abbrev pub view : Tree → Option ℕ → View
view t b = map_option t.kind b

-- whether b is x or above it
abbrev pub above : ℕ → (ℕ → Option ℕ) → ℕ → ℕ → Bool
above zero parent b x = false
above (suc f) parent b x = eqb x b || any_option (λ p. above f parent b p) (parent x)

-- document order: "node, its namespaces, its attributes, then its children's subtrees"
abbrev pub in_order : ℕ → (Which → ℕ → List ℕ) → ℕ → List ℕ
in_order zero ls x = []
in_order (suc f) ls x = x ∷ (ls namespaces x ++ (ls attributes x ++ joined (λ y. in_order f ls y) (ls children x)))

abbrev pub position : ℕ → ℕ → List ℕ → Option ℕ
position n b [] = None
position n b (x ∷ l) = cond (eqb x b) (Some n) (position (suc n) b l)

-- "Keys count from 0 at the Root"; none for a node outside
abbrev pub key_in : Tree → ℕ → Option ℕ
key_in t b = position 0 b (in_order t.births t.lists 0)

-- ---- the edits

unfoldable pub set_list : Tree → Which → ℕ → List ℕ → Tree
set_list t w p l = record {
  births = t.births;
  live = t.live;
  kind = t.kind;
  parent = t.parent;
  lists = update_which t.lists w (update (t.lists w) p l);
  current = false;
}

unfoldable pub set_parent : Tree → ℕ → Option ℕ → Tree
set_parent t b p = record {
  births = t.births;
  live = t.live;
  kind = t.kind;
  parent = update t.parent b p;
  lists = t.lists;
  current = false;
}

-- a new text, value or URI leaves the order current
unfoldable pub set_kind : Tree → ℕ → Kind Name (List ℕ) → Tree
set_kind t b k = record {
  births = t.births;
  live = t.live;
  kind = update t.kind b k;
  parent = t.parent;
  lists = t.lists;
  current = t.current;
}

unfoldable pub set_current : Tree → Tree
set_current t = record { births = t.births; live = t.live; kind = t.kind; parent = t.parent; lists = t.lists; current = true }

abbrev pub link : Tree → Which → ℕ → ℕ → ℕ → Tree
link t w p i b = set_list t w p (insert_at i b (t.lists w p))

abbrev pub unlink_from : Option ℕ → Tree → ℕ → Tree
unlink_from None t b = t
unlink_from (Some p) t b =
    let w = which_of (t.kind b) in
    set_list t w p (without (eqb b) (t.lists w p))

unfoldable pub unlink : Tree → ℕ → Tree
unlink t b = unlink_from (t.parent b) t b

-- a new birth, in no list yet
unfoldable pub born : Tree → Kind Name (List ℕ) → Tree
born t k = record {
  births = suc t.births;
  live = update t.live t.births true;
  kind = update t.kind t.births k;
  parent = update t.parent t.births None;
  lists = λ w. update (t.lists w) t.births [];
  current = false;
}

-- "Detach: unlink, no parent."
abbrev pub unhook : Tree → ℕ → Tree
unhook t b = set_parent (unlink t b) b None

abbrev pub attach : Tree → Which → ℕ → ℕ → ℕ → Tree
attach t w p i b = link (set_parent t b (Some p)) w p i b

-- "it and all below, attributes and namespaces too, are gone"
unfoldable pub gone : Tree → ℕ → Tree
gone t b = record {
  births = t.births;
  live = λ x. t.live x && not (above t.births t.parent b x);
  kind = t.kind;
  parent = t.parent;
  lists = t.lists;
  current = false;
}

-- "Remove: unlink, then it and all below .. are gone."
abbrev pub removed : Tree → ℕ → Tree
removed t b = gone (unhook t b) b

-- "Append: a new birth at the list's end."
abbrev pub appended : Tree → Which → ℕ → Kind Name (List ℕ) → Tree
appended t w p k = let e = born t k in attach e w p (length (e.lists w p)) t.births

-- "Move: unlink, then insert at min(index, remaining length), or at the end."
abbrev pub moved : Tree → ℕ → Option ℕ → ℕ → Tree
moved t p at c = let e = unhook t c in attach e children p (or_else (length (e.lists children p)) at) c

-- ---- the calls

-- The plain tree's answers: births for handles, pairs for names, no ranges.
abbrev pub TreeAnswer : Type 0
TreeAnswer = Answer ℕ Name (Unit {0})

pub record Out : Type 0 where
  pub tree : Tree
  pub answer : TreeAnswer

abbrev pub answers : Tree → TreeAnswer → Out
answers t a = record { tree = t; answer = a }

abbrev pub guarded : ℕ → Tree → Out → Out
guarded zero t o = o
guarded (suc n) t o = answers t (refused (suc n))

-- a birth that was not found is never looked at
abbrev pub birth : Option ℕ → ℕ
birth b = or_else 0 b

abbrev pub root_element : Tree → Option ℕ
root_element t = find (λ c. is_element (t.kind c)) (t.lists children 0)

abbrev pub has_name : Tree → Name → ℕ → Bool
has_name t n a = any_option (same_name n) (attribute_name (t.kind a))

abbrev pub has_prefix : Tree → List ℕ → ℕ → Bool
has_prefix t p a = any_option (same_bytes p) (prefix_of (t.kind a))

abbrev pub appends : ℕ → Tree → ℕ → Kind Name (List ℕ) → Out
appends check t p k = guarded check t (answers (appended t children p k) (made t.births))

abbrev pub replaced : Tree → ℕ → List ℕ → Tree
replaced t b s = set_kind t b (with_text (t.kind b) s)

-- "`set_attribute` on an equal pair, and `declare_namespace` on an equal prefix, replace the text instead."
abbrev pub set_attribute_found : Option ℕ → Tree → ℕ → Name → List ℕ → Out
set_attribute_found (Some a) t e n value = answers (replaced t a value) done
set_attribute_found None t e n value = answers (appended t attributes e (attribute n value)) done

abbrev pub set_attribute : Tree → Option ℕ → List ℕ → List ℕ → List ℕ → Out
set_attribute t e ns local value =
    let found = find (has_name t (name ns local)) (t.lists attributes (birth e)) in
    guarded (check_set_attribute ns local value (view t e) (is_some found)) t (set_attribute_found found t (birth e) (name ns local) value)

abbrev pub declare_namespace_found : Option ℕ → Tree → ℕ → List ℕ → List ℕ → Out
declare_namespace_found (Some a) t e prefix uri = answers (replaced t a uri) (made a)
declare_namespace_found None t e prefix uri = answers (appended t namespaces e (namespace prefix uri)) (made t.births)

abbrev pub declare_namespace : Tree → Option ℕ → List ℕ → List ℕ → Out
declare_namespace t e prefix uri =
    let found = find (has_prefix t prefix) (t.lists namespaces (birth e)) in
    guarded (check_declare_namespace prefix uri (view t e)) t (declare_namespace_found found t (birth e) prefix uri)

-- "`remove_attribute` removes the equal pair, if there is one."
abbrev pub remove_attribute_found : Option ℕ → Tree → Out
remove_attribute_found None t = answers t (truth false)
remove_attribute_found (Some a) t = answers (removed t a) (truth true)

abbrev pub remove_attribute : Tree → Option ℕ → List ℕ → List ℕ → Out
remove_attribute t e ns local =
    let found = find (has_name t (name ns local)) (t.lists attributes (birth e)) in
    guarded (check_remove_attribute ns local (view t e)) t (remove_attribute_found found t)

abbrev pub move_to : Tree → Option ℕ → Option ℕ → Option ℕ → Out
move_to t p at c =
    guarded
    (check_move (view t c) (view t p) (above t.births t.parent (birth c) (birth p)) (other_than (root_element t) c))
    t
    (answers (moved t (birth p) at (birth c)) done)

abbrev pub under_root : Tree → Option ℕ → Bool
under_root t b = any_option (λ p. is_root (t.kind p)) (t.parent (birth b))

abbrev pub shown_list : Tree → Which → Option ℕ → TreeAnswer
shown_list t w None = listed tt []
shown_list t w (Some b) = listed tt (t.lists w b)

abbrev pub order_key : Tree → Option ℕ → TreeAnswer
order_key t None = key None
order_key t (Some b) = cond t.current (key (key_in t b)) (refused 15)

abbrev pub parent_of : Tree → Option ℕ → Option ℕ
parent_of t None = None
parent_of t (Some b) = t.parent b

-- A step of the plain tree. `document_order` answers by slots: its keys are compared node by node (`Claim`), so the tree answers `done`
-- there. `name` is no step.
abbrev pub step : Call → (ℕ → ℕ) → Tree → Out
step (append-element p ns local) hs t =
    let b = means t hs p in
    appends (check_append_element ns local (view t b) (other_than (root_element t) None)) t (birth b) (element (name ns local))
step (append-text p s) hs t = let b = means t hs p in appends (check_append_text s (view t b)) t (birth b) (text s)
step (append-comment p s) hs t = let b = means t hs p in appends (check_append_comment s (view t b)) t (birth b) (comment s)
step (append-pi p target content) hs t =
    let b = means t hs p in
    appends (check_append_pi target content (view t b)) t (birth b) (instruction target content)
step (set-text h s) hs t =
    let b = means t hs h in
    guarded (check_set_text s (view t b) (under_root t b)) t (answers (replaced t (birth b) s) done)
step (set-attribute e ns local value) hs t = set_attribute t (means t hs e) ns local value
step (remove-attribute e ns local) hs t = remove_attribute t (means t hs e) ns local
step (declare-namespace e prefix uri) hs t = declare_namespace t (means t hs e) prefix uri
step (remove h) hs t = let b = means t hs h in guarded (check_remove (view t b)) t (answers (removed t (birth b)) done)
step (detach h) hs t = let b = means t hs h in guarded (check_detach (view t b)) t (answers (unhook t (birth b)) done)
step (reparent c p) hs t = move_to t (means t hs p) None (means t hs c)
step (insert-at p i c) hs t = move_to t (means t hs p) (Some i) (means t hs c)
step document-order hs t = answers (set_current t) done
step compact hs t = answers (set_current t) done
step root-of hs t = answers t (made 0)
step (kind-of h) hs t = answers t (kind_is (view t (means t hs h)) tt tt)
step (parent-of h) hs t = answers t (node (parent_of t (means t hs h)))
step (children-of h) hs t = answers t (shown_list t children (means t hs h))
step root-element hs t = answers t (node (root_element t))
step (is-element h) hs t = answers t (truth (any_option is_element (view t (means t hs h))))
step (name_of n) hs t = answers t done
step (attribute-nodes h) hs t = answers t (shown_list t attributes (means t hs h))
step (namespace-nodes h) hs t = answers t (shown_list t namespaces (means t hs h))
step nodes hs t = answers t (every_node (keep t.live (tabulate (λ b. b) t.births)))
step (order-key h) hs t = answers t (order_key t (means t hs h))
