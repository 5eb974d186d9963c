-- Where the regions of a document lie in the lent buffer, and how many words it takes (docs/LAYOUT.md has the same formula).
use Rattle.std.specs.Prelude.{Bool, ◌&&◌, ℕ, ◌+◌, ◌*◌, leb}
use Rattle.slots.specs.Regions.{slots_words}
use Rattle.model.specs.Kinds.{Which, children, attributes, namespaces}
use Rattle.model.specs.Doc.{Limits, limits_ok}
use Rattle.layout.specs.declared.Limits as given
use Rattle.layout.specs.declared.Document.{Document}
use Rattle.layout.specs.declared.Arena.{Arena}
use Rattle.layout.specs.declared.Arena.TheVariants.{Children, Attributes, Namespaces}

-- the arena that the code names
abbrev pub which_of : Arena → Which
which_of Children = children
which_of Attributes = attributes
which_of Namespaces = namespaces

-- the limits of the record, as the definitions speak of them
abbrev pub entries_of : given.Limits → Which → ℕ
entries_of l children = l.children
entries_of l attributes = l.attributes
entries_of l namespaces = l.namespaces

abbrev pub limits_of : given.Limits → Limits
limits_of l = record {
  nodes = l.nodes;
  entries = entries_of l;
  texts = l.texts;
  text_bytes = l.textbytes;
  names = l.names;
  name_bytes = l.namebytes;
}

-- ---- the regions, one part of the buffer for each lower layer, side by side

-- slots: generations, free stack, records, order words
abbrev pub slots_at : ℕ
slots_at = 0

-- an arena: ids, then capacities
abbrev pub arena_words : Limits → Which → ℕ
arena_words l w = 2 * l.entries w

unfoldable pub arena_at : Limits → Which → ℕ
arena_at l children = slots_words l.nodes
arena_at l attributes = slots_words l.nodes + arena_words l children
arena_at l namespaces = slots_words l.nodes + arena_words l children + arena_words l attributes

-- texts: ends, free stack, bytes
abbrev pub texts_words : Limits → ℕ
texts_words l = 2 * l.texts + l.text_bytes

unfoldable pub texts_at : Limits → ℕ
texts_at l = slots_words l.nodes + arena_words l children + arena_words l attributes + arena_words l namespaces

-- names: two ends a name, bytes
abbrev pub names_words : Limits → ℕ
names_words l = 2 * l.names + l.name_bytes

unfoldable pub names_at : Limits → ℕ
names_at l =
    slots_words l.nodes + arena_words l children + arena_words l attributes + arena_words l namespaces + texts_words l

-- "Document memory needs what a formula over the limits in docs/LAYOUT.md says"
unfoldable pub document_words : Limits → ℕ
document_words l =
    slots_words l.nodes + arena_words l children + arena_words l attributes + arena_words l namespaces + texts_words l + names_words l

-- "Scratch: 4N + A + B + C + T words of 64 bits."
unfoldable pub scratch_words : Limits → ℕ
scratch_words l = 4 * l.nodes + l.entries children + l.entries attributes + l.entries namespaces + l.texts

-- ---- test 4: "a limit is above its maximum, the node limit is 0, or a lent buffer is shorter than the limits need"

-- of a reading call, which is lent no scratch
unfoldable pub memory_ok : Document → ℕ → Bool
memory_ok d mem = limits_ok (limits_of d.limits) && leb (document_words (limits_of d.limits)) mem

unfoldable pub buffers_ok : Document → ℕ → ℕ → Bool
buffers_ok d mem scratch = memory_ok d mem && leb (scratch_words (limits_of d.limits)) scratch
