-- What the words of lent memory mean: the document of a record and a buffer. It is total: any words and any counts are some document, and a count above its limit
-- reads as the limit.
use Rattle.words.specs.declared.TextSlot.{TextSlot}
use Rattle.std.specs.Prelude.{Bool, ◌&&◌, cond, List, reverse, ℕ, ◌+◌, min, take, leb, ltb, Option, None, Some}
use Rattle.words.specs.Parts.{part}
use Rattle.words.specs.Lists.{tabulate}
use Rattle.words.specs.Ends.{ends_reach}
use Rattle.blocks.specs.Arena.{Arena, Block, block, arena_of}
use Rattle.records.specs.Handles.{word_of}
use Rattle.slots.specs.Regions.{slots_words, generation_at, free_at, node_at, order_at}
use Rattle.slots.specs.Slots.{resolved}
use Rattle.records.specs.declared.NodeId.{NodeId}
use Rattle.records.specs.declared.NodeData.{NodeData}
use Rattle.records.specs.declared.NodeData.TheVariants as given
use Rattle.records.specs.declared.Range.{Range}
use Rattle.records.specs.declared.Node.{Node}
use Rattle.model.specs.Kinds.{Kind, root, element, attribute, text, comment, namespace, instruction, Which, children, attributes, namespaces}
use Rattle.texts.specs.Pool.{Pool}
use Rattle.texts.specs.Words.{text_shown}
use Rattle.texts.specs.declared.TextLimits.{TextLimits}
use Rattle.texts.specs.declared.TextCounts.{TextCounts}
use Rattle.names.specs.Table.{Name}
use Rattle.names.specs.Words.{name_shown}
use Rattle.names.specs.declared.NameLimits.{NameLimits}
use Rattle.names.specs.declared.NameCounts.{NameCounts}
use Rattle.model.specs.Doc.{Doc, Limits, columns}
use Rattle.layout.specs.declared.Counts.{Counts}
use Rattle.layout.specs.declared.Document.{Document}
use Rattle.layout.specs.Record.{used_of}
use Rattle.layout.specs.Layout.{limits_of, slots_at, arena_words, arena_at, texts_at, texts_words, names_at, names_words}

-- ---- a node

abbrev pub slot_of : Option TextSlot → Option ℕ
slot_of None = None
slot_of (Some t) = Some t.0

abbrev pub kind_of : NodeData → Kind ℕ (Option ℕ)
kind_of given.Root = root
kind_of (given.Element n a s) = element n.0
kind_of (given.Attr n v) = attribute n.0 (slot_of v)
kind_of (given.Text v) = text (slot_of v)
kind_of (given.Comment v) = comment (slot_of v)
kind_of (given.Namespace p u) = namespace (slot_of p) (slot_of u)
kind_of (given.ProcessingInstruction t c) = instruction (slot_of t) (slot_of c)

abbrev pub handle_of : Option NodeId → Option ℕ
handle_of None = None
handle_of (Some h) = Some (word_of h)

abbrev pub block_of : Range → Block
block_of r = block r.start r.len

abbrev pub element_range : Which → NodeData → Block
element_range w given.Root = block 0 0
element_range children (given.Element n a s) = block 0 0
element_range attributes (given.Element n a s) = block_of a
element_range namespaces (given.Element n a s) = block_of s
element_range w (given.Attr n v) = block 0 0
element_range w (given.Text v) = block 0 0
element_range w (given.Comment v) = block 0 0
element_range w (given.Namespace p u) = block 0 0
element_range w (given.ProcessingInstruction t c) = block 0 0

abbrev pub range_of : Which → Node → Block
range_of children n = block_of n.children
range_of attributes n = element_range attributes n.«data»
range_of namespaces n = element_range namespaces n.«data»

abbrev pub kind_loaded : Option Node → Option (Kind ℕ (Option ℕ))
kind_loaded (Some n) = Some (kind_of n.«data»)
kind_loaded None = None

abbrev pub parent_loaded : Option Node → Option ℕ
parent_loaded (Some n) = handle_of n.parent
parent_loaded None = None

abbrev pub range_loaded : Which → Option Node → Block
range_loaded w (Some n) = range_of w n
range_loaded w None = block 0 0

-- a slot whose generation is not of 32 bits is no node
abbrev pub loaded_at : ℕ → List ℕ → ℕ → Option Node
loaded_at n w s = cond (ltb (generation_at n w s) 4294967296) (node_at n w s) None

-- ---- the counts

-- rule 1: "Counts are within limits"
unfoldable pub counts_within : Limits → Counts → Bool
counts_within l c =
    leb c.slots l.nodes && leb c.free l.nodes
    && leb c.children (l.entries children) && leb c.attributes (l.entries attributes) && leb c.namespaces (l.entries namespaces)
    && leb c.texts l.texts && leb c.freetexts l.texts && leb c.textbytes l.text_bytes
    && leb c.names l.names && leb c.namebytes l.name_bytes

-- ---- the document

-- the words of each layer
abbrev pub slots_part : Document → List ℕ → List ℕ
slots_part d mem = part slots_at (slots_words d.limits.nodes) mem

abbrev pub arena_part : Document → Which → List ℕ → List ℕ
arena_part d w mem = part (arena_at (limits_of d.limits) w) (arena_words (limits_of d.limits) w) mem

-- "a count above its limit reads as the limit"
abbrev pub slots_made : Document → ℕ
slots_made d = min d.counts.slots d.limits.nodes

abbrev pub slots_free : Document → ℕ
slots_free d = min d.counts.free d.limits.nodes

abbrev pub arena_used : Document → Which → ℕ
arena_used d w = min (used_of d.counts w) ((limits_of d.limits).entries w)

-- an arena, and the node that a handle resolves to
abbrev pub arena_in : Document → Which → List ℕ → Arena
arena_in d w mem = arena_of ((limits_of d.limits).entries w) (arena_used d w) (arena_part d w mem)

abbrev pub resolved_in : Document → List ℕ → NodeId → Option Node
resolved_in d mem h = resolved d.limits.nodes (slots_part d mem) (slots_made d) h

-- the document but for its texts and names, which the layers of the pool and of the table read: of the words of the slots and of each arena
abbrev pub document_of : Pool → List (Option Name) → Bool → Document → List ℕ → (Which → List ℕ) → Doc
document_of pool names lengths d w arenas =
    let n = d.limits.nodes in
    columns
    (limits_of d.limits)
    (tabulate (generation_at n w) (slots_made d))
    (reverse (tabulate (free_at n w) (slots_free d)))
    (tabulate (λ s. kind_loaded (loaded_at n w s)) (slots_made d))
    (tabulate (λ s. parent_loaded (loaded_at n w s)) (slots_made d))
    (λ a. tabulate (λ s. range_loaded a (loaded_at n w s)) (slots_made d))
    (λ a. arena_of ((limits_of d.limits).entries a) (arena_used d a) (arenas a))
    (tabulate (order_at n w) n)
    d.current
    pool
    names
    (counts_within (limits_of d.limits) d.counts)
    lengths

abbrev pub decode_with : Pool → List (Option Name) → Bool → Document → List ℕ → Doc
decode_with pool names lengths d mem = document_of pool names lengths d (slots_part d mem) (λ a. arena_part d a mem)

-- ---- texts and names

abbrev pub text_limits : Document → TextLimits
text_limits d = record { slots = d.limits.texts; bytes = d.limits.textbytes }

abbrev pub text_counts : Document → TextCounts
text_counts d = record { slots = d.counts.texts; free = d.counts.freetexts; bytes = d.counts.textbytes }

abbrev pub name_limits : Document → NameLimits
name_limits d = record { names = d.limits.names; bytes = d.limits.namebytes }

abbrev pub name_counts : Document → NameCounts
name_counts d = record { names = d.counts.names; bytes = d.counts.namebytes }

abbrev pub texts_part : Document → List ℕ → List ℕ
texts_part d mem = part (texts_at (limits_of d.limits)) (texts_words (limits_of d.limits)) mem

abbrev pub names_part : Document → List ℕ → List ℕ
names_part d mem = part (names_at (limits_of d.limits)) (names_words (limits_of d.limits)) mem

-- the texts as they are shown: "an empty text .. for a number outside its table or bytes outside their pool"
abbrev pub pool_in : Document → List ℕ → Pool
pool_in d mem =
    record {
      texts = tabulate (λ s. text_shown (text_limits d) (text_counts d) s (texts_part d mem)) (min d.counts.texts d.limits.texts);
      free = reverse (part d.limits.texts (min d.counts.freetexts d.limits.texts) (texts_part d mem));
    }

-- the names as they are shown: ".. no name for a number outside its table or bytes outside their pool"
abbrev pub names_in : Document → List ℕ → List (Option Name)
names_in d mem = tabulate (λ i. name_shown (name_limits d) (name_counts d) i (names_part d mem)) (min d.counts.names d.limits.names)

-- rule 8: "text and name lengths add to the bytes used", both by their ends
abbrev pub texts_add : Document → List ℕ → Bool
texts_add d mem = ends_reach 0 (take d.counts.texts (texts_part d mem)) d.counts.textbytes

abbrev pub names_add : Document → List ℕ → Bool
names_add d mem = ends_reach 0 (take (d.counts.names + d.counts.names) (names_part d mem)) d.counts.namebytes

unfoldable pub lengths_add : Document → List ℕ → Bool
lengths_add d mem = texts_add d mem && names_add d mem

-- the document of a record and a buffer
abbrev pub decode : Document → List ℕ → Doc
decode d mem = decode_with (pool_in d mem) (names_in d mem) (lengths_add d mem) d mem
