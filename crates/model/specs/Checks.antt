-- The checks of each call but Full, in the Rust's order after 1, as 01's numbers, 0 where the call is accepted. The document and the plain
-- tree share them: a node is seen as its kind with its name pair and its bytes, or none where the handle is stale.
use Rattle.std.specs.Prelude.{Bool, true, false, not, ◌&&◌, cond, List, [], ◌∷◌, ℕ, Option, None, Some}
use Rattle.names.specs.Table.{Name}
use Rattle.model.specs.Kinds.{Kind, is_container, is_element, is_root, child_kind, text_of}
use Rattle.model.specs.Doc.{is_none, any_option}
use Rattle.model.specs.Arguments.{refuse_if, first, is_utf8, not_utf8, name_check, namespace_check, binding_check, prefix_check, text_check, comment_check, instruction_check, space_only, is_xmlns}

abbrev pub View : Type 0
View = Option (Kind Name (List ℕ))

abbrev pub is_empty : {A : Type 0} → List A → Bool
is_empty [] = true
is_empty (x ∷ l) = false

-- "6 Stale .. 8 NotAContainer"
abbrev pub container : View → ℕ
container None = 6
container (Some k) = refuse_if (not (is_container k)) 8

-- "6 Stale, 7 NotAnElement"
abbrev pub an_element : View → ℕ
an_element None = 6
an_element (Some k) = refuse_if (not (is_element k)) 7

-- "6 Stale .. 9 NotAChild .. 11 NotRemovable"
abbrev pub a_child : View → ℕ
a_child None = 6
a_child (Some k) = child_kind k

-- "Text under the Root is space, tab, newline only, or empty."
abbrev pub text_under : Bool → List ℕ → ℕ
text_under under_root t = first (text_check t) (refuse_if (under_root && not (space_only t)) 3)

-- taken: the Root has an element child
abbrev pub check_append_element : List ℕ → List ℕ → View → Bool → ℕ
check_append_element ns local parent taken =
    first (not_utf8 (ns ∷ local ∷ []))
    (first (container parent)
    (first (refuse_if (any_option is_root parent && taken) 12)
    (first (name_check local) (namespace_check ns))))

abbrev pub check_append_text : List ℕ → View → ℕ
check_append_text t parent = first (not_utf8 (t ∷ [])) (first (container parent) (text_under (any_option is_root parent) t))

abbrev pub check_append_comment : List ℕ → View → ℕ
check_append_comment t parent = first (not_utf8 (t ∷ [])) (first (container parent) (comment_check t))

abbrev pub check_append_pi : List ℕ → List ℕ → View → ℕ
check_append_pi target content parent =
    first (not_utf8 (target ∷ content ∷ [])) (first (container parent) (instruction_check target content))

-- "10 NotText"
abbrev pub a_text : View → ℕ
a_text None = 6
a_text (Some k) = refuse_if (is_none (text_of k)) 10

-- under_root: the node's parent is the Root
abbrev pub check_set_text : List ℕ → View → Bool → ℕ
check_set_text t node under_root = first (not_utf8 (t ∷ [])) (first (a_text node) (text_under under_root t))

-- found: the element has an attribute of this pair; only a new one has its local part tested
abbrev pub check_set_attribute : List ℕ → List ℕ → List ℕ → View → Bool → ℕ
check_set_attribute ns local value node found =
    first (not_utf8 (ns ∷ local ∷ value ∷ []))
    (first (an_element node)
    (first (namespace_check ns)
    (first (refuse_if (is_empty ns && is_xmlns local) 2)
    (first (text_check value) (cond found 0 (name_check local))))))

abbrev pub check_remove_attribute : List ℕ → List ℕ → View → ℕ
check_remove_attribute ns local node = first (not_utf8 (ns ∷ local ∷ [])) (an_element node)

-- (02, f) "a non-empty prefix with an empty URI": "only the default namespace may be undone"
abbrev pub undeclares_prefix : List ℕ → List ℕ → Bool
undeclares_prefix prefix uri = not (is_empty prefix) && is_empty uri

-- (02, f) "InvalidName .., after the other URI checks"
abbrev pub declaration_check : List ℕ → List ℕ → ℕ
declaration_check prefix uri = first (prefix_check prefix) (first (binding_check uri) (refuse_if (undeclares_prefix prefix uri) 2))

abbrev pub check_declare_namespace : List ℕ → List ℕ → View → ℕ
check_declare_namespace prefix uri node = first (not_utf8 (prefix ∷ uri ∷ [])) (first (an_element node) (declaration_check prefix uri))

abbrev pub check_remove : View → ℕ
check_remove None = 6
check_remove (Some k) = refuse_if (is_root k) 11

abbrev pub check_detach : View → ℕ
check_detach node = a_child node

-- "A stored text that isn't UTF-8 is 3 in a move."
abbrev pub moved_text : Bool → Option (List ℕ) → ℕ
moved_text under_root None = 0
moved_text under_root (Some t) = cond (is_utf8 t) (text_under under_root t) 3

abbrev pub stored_text : View → Option (List ℕ)
stored_text None = None
stored_text (Some k) = text_of k

-- "In each move the kind, container, cycle, second root and text are tested in that order."
-- cycle: the node is the new parent or above it; taken: the Root's element is another
abbrev pub check_move : View → View → Bool → Bool → ℕ
check_move node parent cycle taken =
    first (a_child node)
    (first (container parent)
    (first (refuse_if cycle 13)
    (first (refuse_if (any_option is_root parent && (any_option is_element node && taken)) 12)
    (moved_text (any_option is_root parent) (stored_text node)))))
