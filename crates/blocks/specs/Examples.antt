-- The worked examples of 01 that speak of one arena.
use Rattle.std.specs.Prelude.{◌≡◌, List, [], ◌∷◌, ℕ, get_or}
use Rattle.blocks.specs.Arena.{block, Edit, cap_of, list_of, inserted, removed, fresh_arena}

-- an owner's block in a fresh arena of so many entries
unfoldable pub first : ℕ → Edit
first limit = record { arena = fresh_arena limit; block = block 0 0 }

-- ids appended one after another
unfoldable pub appended : Edit → List ℕ → Edit
appended e [] = e
appended e (id ∷ l) = appended (inserted e.arena e.block e.block.len id) l

-- `insert_at` within one list: unlink, then insert at the index
unfoldable pub move_within : Edit → ℕ → ℕ → Edit
move_within e k id =
    inserted (removed e.arena e.block id).arena (removed e.arena e.block id).block k id

unfoldable pub shown : Edit → List ℕ
shown e = list_of e.arena e.block

-- example 3: a, b, c are 7, 8, 9
unfoldable pub abc : Edit
unfolding first appended
abc = appended (first 16) (7 ∷ 8 ∷ 9 ∷ [])

-- example 1, by its three insertions: element z into the Root's block, text t into z's, text " " into the Root's
unfoldable pub root_gets_element : Edit
root_gets_element = inserted (fresh_arena 16) (block 0 0) 0 1

unfoldable pub element_gets_text : Edit
unfolding root_gets_element
element_gets_text = inserted root_gets_element.arena (block 0 0) 0 2

unfoldable pub root_gets_text : Edit
unfolding root_gets_element element_gets_text
root_gets_text = inserted element_gets_text.arena root_gets_element.block 1 3

unfoldable pub capacity_after : List ℕ → ℕ
unfolding first appended
capacity_after l = cap_of (appended (first 64) l).arena (appended (first 64) l).block

pub record ArenaExamples : Type 0 where
  -- "Fresh: append element "z" gives .. root block (0, 1), arena 4."
  pub root-block : root_gets_element.block ≡ block 0 1
  pub root-arena : root_gets_element.arena.used ≡ 4
  -- "Text "t" in it: .. block (4, 1)."
  pub element-block : element_gets_text.block ≡ block 4 1
  pub element-arena : element_gets_text.arena.used ≡ 8
  -- the element's block was empty and started where the Root's does: the record there is erased
  pub record-erased : get_or element_gets_text.arena.caps 0 0 ≡ 0
  -- so "Text " " under the Root: .. root block moves to (8, 2), arena 12."
  pub root-moved : root_gets_text.block ≡ block 8 2
  pub root-moved-arena : root_gets_text.arena.used ≡ 12
  pub root-list : shown root_gets_text ≡ 1 ∷ 3 ∷ []
  -- "[a, b, c]: `insert_at` 2 of a gives [b, c, a]; 9 the same; 1 gives [b, a, c]."
  pub to-two : shown (move_within abc 2 7) ≡ 8 ∷ 9 ∷ 7 ∷ []
  pub to-nine : shown (move_within abc 9 7) ≡ 8 ∷ 9 ∷ 7 ∷ []
  pub to_one : shown (move_within abc 1 7) ≡ 8 ∷ 7 ∷ 9 ∷ []
  -- "Fifth child: capacity 8. Ninth: 16."
  pub fifth-child : capacity_after (1 ∷ 2 ∷ 3 ∷ 4 ∷ 5 ∷ []) ≡ 8
  pub ninth-child : capacity_after (1 ∷ 2 ∷ 3 ∷ 4 ∷ 5 ∷ 6 ∷ 7 ∷ 8 ∷ 9 ∷ []) ≡ 16
