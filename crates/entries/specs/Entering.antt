-- The two halves of rule 4 as the check decides them: each entry is tested where it stands, and counted in the mark of its slot.
use Rattle.std.specs.Prelude.{Bool, ◌&&◌, cond, List, [], ◌++◌, map, ℕ, ◌+◌, ◌*◌, ◌%◌, get_or, eqb, ltb}
use Rattle.words.specs.Lists.{all}
use Rattle.records.specs.Handles.{handle_index, handle_generation}
use Rattle.model.specs.Kinds.{Which, children, attributes, namespaces, same_which, which_of}
use Rattle.model.specs.Doc.{Doc, live_slot, handle_at, resolves, kind_at, parent_in, parent_at, list_in, any_option}
use Rattle.model.specs.RulesTest.{implies, all_option, all_which}

-- the lists as numbers, to compare them
abbrev pub list_number : Which → ℕ
list_number children = 0
list_number attributes = 1
list_number namespaces = 2

-- the list that a kind of this number stands in
unfoldable pub kind_list : ℕ → ℕ
kind_list kind = cond (eqb kind 2) 1 (cond (eqb kind 5) 2 0)

module _ (D : Doc) (w : Which) where
  -- h may stand in list w of the node whose handle is owner (`entry_holds` of the model, by the owner's handle)
  unfoldable pub enters : ℕ → ℕ → Bool
  enters owner h = resolves D h && any_option (eqb owner) (parent_at D h) && same_which (which_of (kind_at D h)) w

  -- the entries of a slot: a live node's; a free slot has none
  unfoldable pub entries_in : ℕ → List ℕ
  entries_in i = cond (live_slot D i) (list_in D w i) []

  -- "no live node's block has another entry"
  unfoldable pub entries_enter : ℕ → Bool
  entries_enter i = all (enters (handle_at D i)) (entries_in i)

  -- the slots that the entries name
  unfoldable pub slots_entered : ℕ → List ℕ
  slots_entered i = map handle_index (entries_in i)

-- the three lists of a slot: the test of their entries, and the slots that they name
unfoldable pub lists_enter : Doc → ℕ → Bool
lists_enter D i = all_which (λ w. entries_enter D w i)

unfoldable pub slots_named : Doc → ℕ → List ℕ
slots_named D i = slots_entered D children i ++ (slots_entered D attributes i ++ slots_entered D namespaces i)

-- ---- the test of an entry by the words of the memory, which says the same where rule 1 holds of them

-- of the slots made, the handle's is live and of its generation
unfoldable pub current_word : ℕ → List ℕ → ℕ → Bool
current_word made mem h = ltb (handle_index h) made && (eqb (get_or mem (handle_index h) 0 % 2) 0 && eqb (get_or mem (handle_index h) 0) (handle_generation h))

-- the record that starts at an index has owner as its parent
unfoldable pub parent_words : List ℕ → ℕ → ℕ → Bool
parent_words mem at owner = eqb (get_or mem (at + 4) 0) (handle_index owner + 1) && eqb (get_or mem (at + 5) 0) (handle_generation owner)

-- h may stand in the list of this number
unfoldable pub words_enter : ℕ → ℕ → List ℕ → ℕ → ℕ → ℕ → Bool
words_enter nodes made mem list owner h =
    let at = nodes * 2 + handle_index h * 12 in
    current_word made mem h && (parent_words mem at owner && eqb (kind_list (get_or mem at 0)) list)

-- ---- once

-- "A live node with a parent is in just one entry": its mark is 1
unfoldable pub marked_once : Doc → List ℕ → ℕ → Bool
marked_once D marks i = implies (live_slot D i) (all_option (λ _. eqb (get_or marks i 0) 1) (parent_in D i))
