-- What an exported call promises, for all words, slices and numbers: what the call behind it promises, told by the number that is returned and
-- the words that are written.
use Rattle.std.specs.Prelude.{◌≡◌, ◌≢◌, true, false, not, cond, List, [], ℕ, ◌-◌, length, get_or, take, eqb, leb, Option, None, Some}
use Rattle.words.specs.Parts.{put}
use Rattle.model.specs.Calls.{Call, Answered, refused, done, made, truth, node, listed, kind_is, name_is, key, keys, every_node, nodes, step}
use Rattle.layout.specs.declared.Document.{Document}
use Rattle.memory.specs.Decode.{arena_in, decode}
use Rattle.reading.specs.Answers.{text_in, name_part, entries_shown, order_shown}
use Rattle.reading.specs.Contract.{reads, nodes_ok}
use Rattle.blocks.specs.Arena.{Block, block, list_of}
use Rattle.model.specs.Kinds.{Kind, root, element, attribute, text, comment, namespace, instruction, Which, children, attributes, namespaces}
use Rattle.model.specs.Doc.{live_nodes}
use Rattle.names.specs.Table.{name}
use Rattle.editing.specs.Contract.{Edits}
use Rattle.tree.specs.Contract.{Starts}
use Rattle.encoding.specs.Records.{document_of, words_of, is_lent}

-- the answer that a status tells: a refusal by its number, or what was written
abbrev pub told : ℕ → Answered → Answered
told status a = cond (eqb status 0) a (refused status)

-- ---- how the words written for an answer, the record and the memory then tell the answer

abbrev pub Telling : Type 0
Telling = List ℕ → Document → List ℕ → Answered

abbrev pub as_done : Telling
as_done out d mem = done

abbrev pub as_made : Telling
as_made out d mem = made (get_or out 0 0)

abbrev pub as_truth : Telling
as_truth out d mem = truth (not (eqb (get_or out 0 0) 0))

-- a number behind a 1, or none
abbrev pub behind_one : List ℕ → Option ℕ
behind_one out = cond (eqb (get_or out 0 0) 0) None (Some (get_or out 1 0))

abbrev pub as_node : Telling
as_node out d mem = node (behind_one out)

abbrev pub as_key : Telling
as_key out d mem = key (behind_one out)

-- a block, with the handles in it, which `oxml_entries` shows
abbrev pub as_list : Which → Telling
as_list w out d mem = let b = block (get_or out 0 0) (get_or out 1 0) in listed b (list_of (arena_in d w mem) b)

-- a text's slot + 1, or 0 for none; `oxml_text_bytes` shows its bytes
abbrev pub slot_told : ℕ → Option ℕ
slot_told w = cond (eqb w 0) None (Some (w - 1))

-- a kind by its number, with a name's number and two texts
abbrev pub kind_told : ℕ → ℕ → List ℕ → List ℕ → Option (Kind ℕ (List ℕ))
kind_told k n s t =
    cond (eqb k 0) (Some root)
    (cond (eqb k 1) (Some (element n))
    (cond (eqb k 2) (Some (attribute n s))
    (cond (eqb k 3) (Some (text s))
    (cond (eqb k 4) (Some (comment s)) (cond (eqb k 5) (Some (namespace s t)) (cond (eqb k 6) (Some (instruction s t)) None))))))

abbrev pub as_kind : Telling
as_kind out d mem =
    kind_is
    (kind_told (get_or out 0 0) (get_or out 1 0) (text_in d mem (slot_told (get_or out 2 0))) (text_in d mem (slot_told (get_or out 3 0))))
    (block (get_or out 4 0) (get_or out 5 0))
    (block (get_or out 6 0) (get_or out 7 0))

-- whether the number has a name, whose parts `oxml_namespace_bytes` and `oxml_local_bytes` show
abbrev pub as_name : ℕ → Telling
as_name n out d mem = name_is (cond (eqb (get_or out 0 0) 0) None (Some (name (name_part d mem n 0) (name_part d mem n 1))))

-- `oxml_order_words` shows them
abbrev pub as_order : Telling
as_order out d mem = keys (order_shown d mem)

-- ---- the promises

-- A slice was lent for n words: they are written, and nothing else is; a refusal writes none.
pub record Returned (n : ℕ) (out : List ℕ) (status : ℕ) (out' : List ℕ) : Type 0 where
  pub written : status ≡ 0 → out' ≡ put 0 (take n out') out
  pub kept : status ≢ 0 → out' ≡ out
  pub lent : length out' ≡ length out

-- An editing call was given a record as words, memory, scratch, and a slice for n words.
pub record Exported (c : Call) (n : ℕ) (telling : Telling) (words mem scratch out : List ℕ) (status : ℕ) (words' mem' scratch' out' : List ℕ) : Type 0 where
  -- too few words of the record or of the slice: 4, and nothing is touched
  pub short : is_lent words (length out) n ≡ false → (status ≡ 4) × (words' ≡ words) × (mem' ≡ mem) × (scratch' ≡ scratch) × (out' ≡ out)
  pub edits : is_lent words (length out) n ≡ true
      → Edits c (document_of words) mem scratch (told status (telling (take n out') (document_of words') mem')) (document_of words') mem' scratch'
  pub document : Returned 19 words status words'
  -- a record that is written has 1 or 0 for whether the order is current
  pub canonical : status ≡ 0 → take 19 words' ≡ words_of (document_of words')
  pub answer : Returned n out status out'

-- Start was given a record as words, of which it reads the limits, and memory.
pub record ExportedStart (words mem : List ℕ) (status : ℕ) (words' mem' : List ℕ) : Type 0 where
  pub short : is_lent words 0 0 ≡ false → (status ≡ 4) × (words' ≡ words) × (mem' ≡ mem)
  pub starts : is_lent words 0 0 ≡ true → Starts (document_of words).limits mem (told status done) (document_of words') mem'
  pub document : Returned 19 words status words'
  pub canonical : status ≡ 0 → take 19 words' ≡ words_of (document_of words')

-- A reading call was given a record as words, memory, and a slice for n words.
pub record ExportedRead (c : Call) (n : ℕ) (telling : Telling) (words mem out : List ℕ) (status : ℕ) (out' : List ℕ) : Type 0 where
  pub short : is_lent words (length out) n ≡ false → (status ≡ 4) × (out' ≡ out)
  pub shows : is_lent words (length out) n ≡ true → told status (telling (take n out') (document_of words) mem) ≡ reads c (document_of words) mem
  pub answer : Returned n out status out'

-- `oxml_nodes` was lent a list for the handles besides, and writes how many there are.
pub record ExportedNodes (words mem list out : List ℕ) (status : ℕ) (list' out' : List ℕ) : Type 0 where
  pub short : is_lent words (length out) 1 ≡ false → (status ≡ 4) × (list' ≡ list) × (out' ≡ out)
  pub shows : is_lent words (length out) 1 ≡ true
      → told status (every_node (take (get_or out' 0 0) list')) ≡ cond (nodes_ok (document_of words) mem list) (step nodes (decode (document_of words) mem)).answer (refused 4)
  pub listed : is_lent words (length out) 1 ≡ true
      → list' ≡ cond (nodes_ok (document_of words) mem list) (put 0 (live_nodes (decode (document_of words) mem)) list) list
  pub answer : Returned 1 out status out'

-- ---- words that are copied out

-- they stand at the front of a slice that holds them all, and else are not written
unfoldable pub shown_to : List ℕ → List ℕ → List ℕ
shown_to vs out = cond (leb (length vs) (length out)) (put 0 vs out) out

-- a record of too few words shows none
unfoldable pub shown_for : List ℕ → List ℕ → List ℕ
shown_for words vs = cond (is_lent words 0 0) vs []

-- the handles of a block of the arena of that number: 0 children, 1 attributes, 2 namespaces
unfoldable pub entries_told : ℕ → Block → Document → List ℕ → List ℕ
entries_told a b d mem =
    cond (eqb a 0) (entries_shown d mem children b) (cond (eqb a 1) (entries_shown d mem attributes b) (cond (eqb a 2) (entries_shown d mem namespaces b) []))

-- How many words there are was returned, whether or not they were written.
pub record ExportedShow (words vs out : List ℕ) (count : ℕ) (out' : List ℕ) : Type 0 where
  pub number : count ≡ length (shown_for words vs)
  pub written : out' ≡ shown_to (shown_for words vs) out
