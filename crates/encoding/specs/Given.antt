-- What an answer gives: words for a slice that is lent, or a refusal, after which the slice is as it was.
use Rattle.std.specs.Prelude.{Bool, List, [], ◌∷◌, ℕ, Result, Ok, Err, Option, Some, None}
use Rattle.words.specs.Parts.{put}
use Rattle.records.specs.Handles.{word_of}
use Rattle.model.specs.Refusals.{number_of}
use Rattle.model.specs.declared.Refusal.{Refusal}
use Rattle.edits.specs.declared.born.NewNode.{NewNode}
use Rattle.records.specs.Records.{kind_word, name_word, chars_word, first_text, second_text, attributes_span, namespaces_span}
use Rattle.words.specs.declared.NameId.{NameId}
use Rattle.records.specs.declared.NodeData.{NodeData}
use Rattle.records.specs.declared.NodeId.{NodeId}
use Rattle.records.specs.declared.Range.{Range}
use Rattle.layout.specs.declared.Document.{Document}
use Rattle.encoding.specs.Records.{truth_word, words_of}

abbrev pub Given : Type 0
Given = Result (List ℕ) Refusal

-- the number that is returned: 0, or the refusal's
abbrev pub status_of : Given → ℕ
status_of (Err why) = number_of why
status_of (Ok vs) = 0

-- the slice then: the words stand at its front
abbrev pub given_to : List ℕ → Given → List ℕ
given_to out (Err why) = out
given_to out (Ok vs) = put 0 vs out

-- ---- the record that Start or an editing call leaves, and what it made or found

abbrev pub done_record : Result Document Refusal → Given
done_record (Ok d) = Ok (words_of d)
done_record (Err why) = Err why

abbrev pub made_record : Result NewNode Refusal → Given
made_record (Ok n) = Ok (words_of n.document)
made_record (Err why) = Err why

abbrev pub made_words : Result NewNode Refusal → Given
made_words (Ok n) = Ok (word_of n.id ∷ [])
made_words (Err why) = Err why

abbrev pub found_record : Result (Document × Bool) Refusal → Given
found_record (Ok (d, t)) = Ok (words_of d)
found_record (Err why) = Err why

abbrev pub found_words : Result (Document × Bool) Refusal → Given
found_words (Ok (d, t)) = Ok (truth_word t ∷ [])
found_words (Err why) = Err why

-- ---- what a reading call answers

abbrev pub root_words : Result NodeId Refusal → Given
root_words (Ok id) = Ok (word_of id ∷ [])
root_words (Err why) = Err why

abbrev pub truth_words : Result Bool Refusal → Given
truth_words (Ok t) = Ok (truth_word t ∷ [])
truth_words (Err why) = Err why

-- 1 with what there is, or 0 with 0
abbrev pub behind_one : Option ℕ → List ℕ
behind_one (Some n) = 1 ∷ n ∷ []
behind_one None = 0 ∷ 0 ∷ []

abbrev pub node_words : Result (Option NodeId) Refusal → Given
node_words (Ok (Some id)) = Ok (behind_one (Some (word_of id)))
node_words (Ok None) = Ok (behind_one None)
node_words (Err why) = Err why

abbrev pub key_words : Result (Option ℕ) Refusal → Given
key_words (Ok found) = Ok (behind_one found)
key_words (Err why) = Err why

abbrev pub list_words : Result Range Refusal → Given
list_words (Ok b) = Ok (b.start ∷ b.len ∷ [])
list_words (Err why) = Err why

abbrev pub name_words : Result (Option NameId) Refusal → Given
name_words (Ok (Some n)) = Ok (1 ∷ [])
name_words (Ok None) = Ok (0 ∷ [])
name_words (Err why) = Err why

-- how many handles were written to the list that is lent besides
abbrev pub count_words : Result ℕ Refusal → Given
count_words (Ok n) = Ok (n ∷ [])
count_words (Err why) = Err why

-- the words of a node record that tell what the node is
unfoldable pub data_words : NodeData → List ℕ
data_words v =
    kind_word v ∷ name_word v ∷ chars_word (first_text v) ∷ chars_word (second_text v)
    ∷ (attributes_span v).start ∷ (attributes_span v).len ∷ (namespaces_span v).start ∷ (namespaces_span v).len ∷ []

-- 7 is no kind
abbrev pub no_data : List ℕ
no_data = 7 ∷ 0 ∷ 0 ∷ 0 ∷ 0 ∷ 0 ∷ 0 ∷ 0 ∷ []

abbrev pub kind_words : Result (Option NodeData) Refusal → Given
kind_words (Ok (Some v)) = Ok (data_words v)
kind_words (Ok None) = Ok no_data
kind_words (Err why) = Err why
