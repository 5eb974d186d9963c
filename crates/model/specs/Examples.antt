-- The starred bench examples of 01, over the calls on the document, as one list; example 11 as 02 (f) has it; a value replaced, also in the plain tree; and the
-- fault that the port removes.
use Rattle.std.specs.Prelude.{◌≡◌, List, [], ◌∷◌, map, Some}
use Prim.Native.Nat.{ℕ}
use Rattle.blocks.specs.Arena.{block, cap_of}
use Rattle.names.specs.Table.{name}
use Rattle.model.specs.Kinds.{attribute, namespace, children}
use Rattle.model.specs.Doc.{Limits, fresh, handle_word, root_handle, range_in, view_at, list_in}
use Rattle.model.specs.Edits.{subtree, up}
use Rattle.model.specs.Arguments.{name_check}
use Rattle.model.specs.Tree.{Tree, seed}
use Rattle.model.specs.Tree as plain
use Rattle.model.specs.Calls.{Call, append-element, append-text, append-comment, set-text, set-attribute, declare-namespace, remove, detach, reparent, insert-at, document-order, compact, children-of, attribute-nodes, order-key, refused, done, made, listed, keys, key, Run, run}

abbrev pub limits : Limits
limits = record { nodes = 32; entries = λ w. 64; texts = 16; text_bytes = 64; names = 16; name_bytes = 64 }

-- an empty namespace, and texts of one letter
abbrev pub byte : ℕ → List ℕ
byte b = b ∷ []

-- (index, generation) as 01 writes a handle
abbrev pub h : ℕ → ℕ → ℕ
h i g = handle_word i g

abbrev pub from : List Call → Run
from cs = run cs (fresh limits)

-- 1. "Fresh: append element "z" gives (1, 0), root block (0, 1), arena 4. Text "t" in it: (2, 0), block (4, 1). Text " " under the Root:
-- (3, 0), root block moves to (8, 2), arena 12."
abbrev pub first : List Call
first = append-element root_handle [] (byte 122) ∷ []

abbrev pub second : List Call
second = append-element root_handle [] (byte 122) ∷ append-text (h 1 0) (byte 116) ∷ []

abbrev pub third : List Call
third = append-element root_handle [] (byte 122) ∷ append-text (h 1 0) (byte 116) ∷ append-text root_handle (byte 32) ∷ []

-- 2. "Then remove (2, 0); the next text is (2, 2), and (2, 0) is Stale."
abbrev pub reused : List Call
reused =
    append-element root_handle [] (byte 122)
    ∷ append-text (h 1 0) (byte 116)
    ∷ append-text root_handle (byte 32)
    ∷ remove (h 2 0)
    ∷ append-text (h 1 0) (byte 117)
    ∷ set-text (h 2 0) (byte 117)
    ∷ []

-- 3. "[a, b, c]: `insert_at` 2 of a gives [b, c, a]; 9 the same; 1 gives [b, a, c]."
abbrev pub three : List Call
three =
    append-element root_handle [] (byte 122)
    ∷ append-text (h 1 0) (byte 97)
    ∷ append-text (h 1 0) (byte 98)
    ∷ append-text (h 1 0) (byte 99)
    ∷ []

abbrev pub then_call : Run → Call → Run
then_call r c = run (c ∷ []) r.doc

-- 4. "Element with children c1, c2, attribute a removed: freed in order element, a, c2, c1."
abbrev pub owning : List Call
owning =
    append-element root_handle [] (byte 122)
    ∷ append-text (h 1 0) (byte 97)
    ∷ append-text (h 1 0) (byte 98)
    ∷ set-attribute (h 1 0) [] (byte 97) (byte 118)
    ∷ []

-- 5. "Fifth child: capacity 8. Ninth: 16."
abbrev pub texts : ℕ → List Call
texts Prim.Native.Nat.zero = []
texts (Prim.Native.Nat.suc n) = append-comment (h 1 0) [] ∷ texts n

abbrev pub child_capacity : Run → ℕ
child_capacity r = cap_of (r.doc.arenas children) (range_in r.doc children 1)

-- 7. "Root, e, namespace n, attribute a, child c: keys 0, 1, 2, 3, 4."
abbrev pub keyed_tree : List Call
keyed_tree =
    append-element root_handle [] (byte 101)
    ∷ append-text (h 1 0) (byte 99)
    ∷ set-attribute (h 1 0) [] (byte 97) (byte 118)
    ∷ declare-namespace (h 1 0) (byte 110) (byte 117)
    ∷ document-order
    ∷ []

-- 8. "Second root element "1": 12, not 2. Under itself: 13. Moving the Root: 11; an attribute: 9."
abbrev pub refusals : List Call
refusals =
    append-element root_handle [] (byte 101)
    ∷ set-attribute (h 1 0) [] (byte 97) (byte 118)
    ∷ append-element root_handle [] (byte 49)
    ∷ reparent (h 1 0) (h 1 0)
    ∷ reparent root_handle (h 1 0)
    ∷ reparent (h 2 0) (h 1 0)
    ∷ []

-- a move under a child of its own; a value replaced in place; a detached tree that `compact` keeps
abbrev pub under_child : List Call
under_child =
    append-element root_handle [] (byte 101)
    ∷ append-element (h 1 0) [] (byte 102)
    ∷ reparent (h 1 0) (h 2 0)
    ∷ []

abbrev pub replaced_value : List Call
replaced_value =
    append-element root_handle [] (byte 101)
    ∷ set-attribute (h 1 0) [] (byte 97) (byte 118)
    ∷ set-attribute (h 1 0) [] (byte 97) (byte 119)
    ∷ attribute-nodes (h 1 0)
    ∷ []

-- the plain tree after calls whose handles, of generation 0, are births
abbrev pub plainly : List Call → Tree → Tree
plainly [] t = t
plainly (c ∷ cs) t = plainly cs (plain.step c (λ b. b) t).tree

abbrev pub detached_tree : List Call
detached_tree =
    append-element root_handle [] (byte 101)
    ∷ append-comment (h 1 0) (byte 97)
    ∷ detach (h 1 0)
    ∷ compact
    ∷ children-of (h 1 0)
    ∷ []

-- 9. """, "1a", "a:b", U+00D7, U+037E: 2. "a-1", U+00E9, "a" U+00B7 accepted."
abbrev pub refused_names : List (List ℕ)
refused_names = [] ∷ (49 ∷ 97 ∷ []) ∷ (97 ∷ 58 ∷ 98 ∷ []) ∷ (0xC3 ∷ 0x97 ∷ []) ∷ (0xCD ∷ 0xBE ∷ []) ∷ []

abbrev pub accepted_names : List (List ℕ)
accepted_names = (97 ∷ 45 ∷ 49 ∷ []) ∷ (0xC3 ∷ 0xA9 ∷ []) ∷ (97 ∷ 0xC2 ∷ 0xB7 ∷ []) ∷ []

-- 11. ""p" to "" accepted" changes sides (02, f): "only the default namespace may be undone", and a bound prefix can't be undone either
abbrev pub declarations : List Call
declarations =
    append-element root_handle [] (byte 101)
    ∷ declare-namespace (h 1 0) (byte 112) []
    ∷ declare-namespace (h 1 0) (byte 112) (byte 117)
    ∷ declare-namespace (h 1 0) (byte 112) []
    ∷ declare-namespace (h 1 0) [] (byte 117)
    ∷ declare-namespace (h 1 0) [] []
    ∷ []

-- the fault of the minutes: a removal, then an addition in the same slot
abbrev pub fault : List Call
fault =
    append-element root_handle [] (byte 101)
    ∷ append-comment (h 1 0) (byte 97)
    ∷ append-comment (h 1 0) (byte 98)
    ∷ document-order
    ∷ remove (h 2 0)
    ∷ append-comment (h 1 0) (byte 99)
    ∷ order-key (h 2 2)
    ∷ document-order
    ∷ order-key (h 2 2)
    ∷ order-key (h 3 0)
    ∷ []

-- The list.
pub record Starred : Type 0 where
  pub one-element : ((from first).answers ≡ made (h 1 0) ∷ []) × (range_in (from first).doc children 0 ≡ block 0 1) × (((from first).doc.arenas children).used ≡ 4)
  pub one-text : ((from second).answers ≡ made (h 1 0) ∷ made (h 2 0) ∷ []) × (range_in (from second).doc children 1 ≡ block 4 1)
  pub one-moved : ((from third).answers ≡ made (h 1 0) ∷ made (h 2 0) ∷ made (h 3 0) ∷ []) × (range_in (from third).doc children 0 ≡ block 8 2)
      × (((from third).doc.arenas children).used ≡ 12)
  pub two : (from reused).answers ≡ made (h 1 0) ∷ made (h 2 0) ∷ made (h 3 0) ∷ done ∷ made (h 2 2) ∷ refused 6 ∷ []
  pub three-last : list_in (then_call (from three) (insert-at (h 1 0) 2 (h 2 0))).doc children 1 ≡ h 3 0 ∷ h 4 0 ∷ h 2 0 ∷ []
  pub three-past : list_in (then_call (from three) (insert-at (h 1 0) 9 (h 2 0))).doc children 1 ≡ h 3 0 ∷ h 4 0 ∷ h 2 0 ∷ []
  pub three-middle : list_in (then_call (from three) (insert-at (h 1 0) 1 (h 2 0))).doc children 1 ≡ h 3 0 ∷ h 2 0 ∷ h 4 0 ∷ []
  pub four : (subtree (from owning).doc (h 1 0) ≡ h 1 0 ∷ h 4 0 ∷ h 3 0 ∷ h 2 0 ∷ []) × ((then_call (from owning) (remove (h 1 0))).doc.free ≡ 2 ∷ 3 ∷ 4 ∷ 1 ∷ [])
  pub five : (child_capacity (from (append-element root_handle [] (byte 122) ∷ texts 5)) ≡ 8)
      × (child_capacity (from (append-element root_handle [] (byte 122) ∷ texts 9)) ≡ 16)
  pub six : up (up 4294967294) ≡ 0
  pub seven : (from keyed_tree).answers ≡ made (h 1 0) ∷ made (h 2 0) ∷ done ∷ made (h 4 0) ∷ keys (0 ∷ 1 ∷ 4 ∷ 3 ∷ 2 ∷ []) ∷ []
  pub eight : (from refusals).answers ≡ made (h 1 0) ∷ done ∷ refused 12 ∷ refused 13 ∷ refused 11 ∷ refused 9 ∷ []
  pub nine-refused : map name_check refused_names ≡ 2 ∷ 2 ∷ 2 ∷ 2 ∷ 2 ∷ []
  pub nine-accepted : map name_check accepted_names ≡ 0 ∷ 0 ∷ 0 ∷ []
  pub eleven : (from declarations).answers ≡ made (h 1 0) ∷ refused 2 ∷ made (h 2 0) ∷ refused 2 ∷ made (h 3 0) ∷ made (h 3 0) ∷ []
  pub eleven-bound : view_at (from declarations).doc (h 2 0) ≡ Some (namespace (byte 112) (byte 117))
  pub eleven-undone : view_at (from declarations).doc (h 3 0) ≡ Some (namespace [] [])
  pub under-child : (from under_child).answers ≡ made (h 1 0) ∷ made (h 2 0) ∷ refused 13 ∷ []
  pub replaced-value : (from replaced_value).answers ≡ made (h 1 0) ∷ done ∷ done ∷ listed (block 0 1) (h 2 0 ∷ []) ∷ []
  pub replaced-plainly : ((plainly replaced_value seed).births ≡ 3) × ((plainly replaced_value seed).kind 2 ≡ attribute (name [] (byte 97)) (byte 119))
  pub detached-kept : (from detached_tree).answers ≡ made (h 1 0) ∷ made (h 2 0) ∷ done ∷ done ∷ listed (block 0 1) (h 2 0 ∷ []) ∷ []
  -- removal, then an addition in the same slot: the key is refused until the order is renewed, and then is the new node's
  pub order-stale : (from fault).answers
      ≡ made (h 1 0) ∷ made (h 2 0) ∷ made (h 3 0) ∷ keys (0 ∷ 1 ∷ 2 ∷ 3 ∷ []) ∷ done ∷ made (h 2 2) ∷ refused 15 ∷ keys (0 ∷ 1 ∷ 3 ∷ 2 ∷ []) ∷ key (Some 3) ∷ key (Some 2) ∷ []
