-- The words of a node, by name, and the node that words are.
use Rattle.words.specs.declared.TextSlot.{TextSlot}
use Rattle.records.specs.declared.NodeId.{NodeId}
use Rattle.std.specs.Prelude.{Bool, ◌&&◌, ◌||◌, not, cond, List, [], ◌∷◌, ℕ, ◌+◌, ◌-◌, get_or, eqb, leb, Option, None, Some}
use Rattle.words.specs.declared.NameId.{NameId}
use Rattle.records.specs.declared.Range.{Range}
use Rattle.records.specs.declared.NodeData.{NodeData}
use Rattle.records.specs.declared.NodeData.TheVariants.{Root, Element, Attr, Text, Comment, Namespace, ProcessingInstruction}
use Rattle.records.specs.declared.Node.{Node}
use Rattle.records.specs.declared.Span.{Span}
use Rattle.records.specs.declared.NodeRecord.{NodeRecord}

-- ---- from a node to its words

-- a text's word: 0 for the empty text that takes no slot, else its slot + 1
abbrev pub chars_word : Option TextSlot → ℕ
chars_word None = 0
chars_word (Some t) = t.0 + 1

-- the parent's word: 0 for none, else its index + 1; the parent's generation stands beside it
abbrev pub parent_word : Option NodeId → ℕ
parent_word None = 0
parent_word (Some h) = h.index + 1

abbrev pub parent_generation : Option NodeId → ℕ
parent_generation None = 0
parent_generation (Some h) = h.generation

abbrev pub span_of : Range → Span
span_of r = record { start = r.start; len = r.len }

abbrev pub no_span : Span
no_span = record { start = 0; len = 0 }

-- the words that tell what a node is
abbrev pub kind_word : NodeData → ℕ
kind_word Root = 0
kind_word (Element n a s) = 1
kind_word (Attr n v) = 2
kind_word (Text v) = 3
kind_word (Comment v) = 4
kind_word (Namespace p u) = 5
kind_word (ProcessingInstruction t d) = 6

abbrev pub name_word : NodeData → ℕ
name_word Root = 0
name_word (Element n a s) = n.0
name_word (Attr n v) = n.0
name_word (Text v) = 0
name_word (Comment v) = 0
name_word (Namespace p u) = 0
name_word (ProcessingInstruction t d) = 0

abbrev pub first_text : NodeData → Option TextSlot
first_text Root = None
first_text (Element n a s) = None
first_text (Attr n v) = v
first_text (Text v) = v
first_text (Comment v) = v
first_text (Namespace p u) = p
first_text (ProcessingInstruction t d) = t

abbrev pub second_text : NodeData → Option TextSlot
second_text Root = None
second_text (Element n a s) = None
second_text (Attr n v) = None
second_text (Text v) = None
second_text (Comment v) = None
second_text (Namespace p u) = u
second_text (ProcessingInstruction t d) = d

abbrev pub attributes_span : NodeData → Span
attributes_span Root = no_span
attributes_span (Element n a s) = span_of a
attributes_span (Attr n v) = no_span
attributes_span (Text v) = no_span
attributes_span (Comment v) = no_span
attributes_span (Namespace p u) = no_span
attributes_span (ProcessingInstruction t d) = no_span

abbrev pub namespaces_span : NodeData → Span
namespaces_span Root = no_span
namespaces_span (Element n a s) = span_of s
namespaces_span (Attr n v) = no_span
namespaces_span (Text v) = no_span
namespaces_span (Comment v) = no_span
namespaces_span (Namespace p u) = no_span
namespaces_span (ProcessingInstruction t d) = no_span

unfoldable pub record_of : Node → NodeRecord
record_of n = record {
  kind = kind_word n.«data»;
  name = name_word n.«data»;
  first = chars_word (first_text n.«data»);
  second = chars_word (second_text n.«data»);
  parent = parent_word n.parent;
  generation = parent_generation n.parent;
  children = span_of n.children;
  attributes = attributes_span n.«data»;
  namespaces = namespaces_span n.«data»;
}

-- ---- from words to the node that they are

-- what a kind has
abbrev pub has_name : ℕ → Bool
has_name k = eqb k 1 || eqb k 2

abbrev pub has_first : ℕ → Bool
has_first k = leb 2 k

abbrev pub has_second : ℕ → Bool
has_second k = leb 5 k

-- attributes and namespaces have no block of children
abbrev pub has_children : ℕ → Bool
has_children k = not (eqb k 2 || eqb k 5)

-- only elements have blocks of attributes and namespaces
abbrev pub has_lists : ℕ → Bool
has_lists k = eqb k 1

-- the greatest that a word may be: 0 where it has no use
abbrev pub most : Bool → ℕ → ℕ
most used limit = cond used limit 0

unfoldable pub is_span : Bool → Span → Bool
is_span used s = leb s.start (most used 4294967295) && leb s.len (most used 4294967295)

-- 01, rule 1: "words within their fields". Each number is of 32 bits, and a word that its kind has no use for is zero.
unfoldable pub is_data : NodeRecord → Bool
is_data r =
    leb r.kind 6
    && (leb r.name (most (has_name r.kind) 4294967295)
    && (leb r.first (most (has_first r.kind) 4294967296) && leb r.second (most (has_second r.kind) 4294967296)))

unfoldable pub is_parent : NodeRecord → Bool
is_parent r = leb r.parent 4294967296 && leb r.generation (most (not (eqb r.parent 0)) 4294967295)

unfoldable pub are_ranges : NodeRecord → Bool
are_ranges r =
    is_span (has_children r.kind) r.children
    && (is_span (has_lists r.kind) r.attributes && is_span (has_lists r.kind) r.namespaces)

unfoldable pub is_node : NodeRecord → Bool
is_node r = is_data r && (is_parent r && are_ranges r)

abbrev pub chars_of : ℕ → Option TextSlot
chars_of w = cond (eqb w 0) None (Some (record { 0 = w - 1 }))

abbrev pub parent_of : ℕ → ℕ → Option NodeId
parent_of w g = cond (eqb w 0) None (Some (record { index = w - 1; generation = g }))

abbrev pub range_of : Span → Range
range_of s = record { start = s.start; len = s.len }

abbrev pub name_of : ℕ → NameId
name_of w = record { 0 = w }

unfoldable pub data_of : NodeRecord → NodeData
data_of r =
    cond (eqb r.kind 0) Root
    (cond (eqb r.kind 1) (Element (name_of r.name) (range_of r.attributes) (range_of r.namespaces))
    (cond (eqb r.kind 2) (Attr (name_of r.name) (chars_of r.first))
    (cond (eqb r.kind 3) (Text (chars_of r.first))
    (cond (eqb r.kind 4) (Comment (chars_of r.first))
    (cond (eqb r.kind 5) (Namespace (chars_of r.first) (chars_of r.second))
    (ProcessingInstruction (chars_of r.first) (chars_of r.second)))))))

-- the node that words are, where they are one
abbrev pub found_node : NodeRecord → Node
found_node r = record { «data» = data_of r; parent = parent_of r.parent r.generation; children = range_of r.children }

unfoldable pub node_of : NodeRecord → Option Node
node_of r = cond (is_node r) (Some (found_node r)) None

-- the Root as Start lays it: all twelve words zero
abbrev pub zero_root : Node
zero_root = record { «data» = Root; parent = None; children = record { start = 0; len = 0 } }

-- ---- twelve words, by name, and back
abbrev pub read_record : List ℕ → NodeRecord
read_record w = record {
  kind = get_or w 0 0;
  name = get_or w 1 0;
  first = get_or w 2 0;
  second = get_or w 3 0;
  parent = get_or w 4 0;
  generation = get_or w 5 0;
  children = record { start = get_or w 6 0; len = get_or w 7 0 };
  attributes = record { start = get_or w 8 0; len = get_or w 9 0 };
  namespaces = record { start = get_or w 10 0; len = get_or w 11 0 };
}

abbrev pub record_words : NodeRecord → List ℕ
record_words r =
    r.kind ∷ r.name ∷ r.first ∷ r.second ∷ r.parent ∷ r.generation
    ∷ r.children.start ∷ r.children.len ∷ r.attributes.start ∷ r.attributes.len ∷ r.namespaces.start ∷ r.namespaces.len ∷ []
