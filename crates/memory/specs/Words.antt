-- Single words of a slot's record, and what those of a live node say.
use Rattle.std.specs.Prelude.{List, ℕ, get_or, Option, None}
use Rattle.words.specs.Parts.{part}
use Rattle.slots.specs.Regions.{record_start}
use Rattle.model.specs.Kinds.{Kind, root, element, attribute, text, comment, namespace, instruction, Which, children, attributes, namespaces}
use Rattle.layout.specs.declared.Document.{Document}
use Rattle.memory.specs.Decode.{slots_part}

-- a word of a slot's record
unfoldable pub record_word : Document → List ℕ → ℕ → ℕ → ℕ
record_word d mem s k = get_or (part (record_start d.limits.nodes s) 12 (slots_part d mem)) k 0

-- where an arena's block stands in a record: its start, then its length
abbrev pub block_at : Which → ℕ
block_at children = 6
block_at attributes = 8
block_at namespaces = 10

-- what the words of a live node say of its kind
abbrev pub kind_number : Kind ℕ (Option ℕ) → ℕ
kind_number root = 0
kind_number (element n) = 1
kind_number (attribute n v) = 2
kind_number (text t) = 3
kind_number (comment t) = 4
kind_number (namespace p u) = 5
kind_number (instruction t d) = 6

abbrev pub name_number : Kind ℕ (Option ℕ) → ℕ
name_number root = 0
name_number (element n) = n
name_number (attribute n v) = n
name_number (text t) = 0
name_number (comment t) = 0
name_number (namespace p u) = 0
name_number (instruction t d) = 0

abbrev pub first_slot : Kind ℕ (Option ℕ) → Option ℕ
first_slot root = None
first_slot (element n) = None
first_slot (attribute n v) = v
first_slot (text t) = t
first_slot (comment t) = t
first_slot (namespace p u) = p
first_slot (instruction t d) = t

abbrev pub second_slot : Kind ℕ (Option ℕ) → Option ℕ
second_slot root = None
second_slot (element n) = None
second_slot (attribute n v) = None
second_slot (text t) = None
second_slot (comment t) = None
second_slot (namespace p u) = u
second_slot (instruction t d) = d
