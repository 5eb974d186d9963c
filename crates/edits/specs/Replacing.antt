-- A text in place of a node's own.
use Rattle.words.specs.declared.TextSlot.{TextSlot}
use Rattle.std.specs.Prelude.{◌≡◌, true, List, ℕ, ◌<◌, length, Option, Some}
use Rattle.records.specs.declared.NodeData.{NodeData}
use Rattle.records.specs.declared.NodeData.TheVariants.{Root, Element, Attr, Text, Comment, Namespace, ProcessingInstruction}
use Rattle.records.specs.declared.Node.{Node}
use Rattle.model.specs.Doc.{resolves, bytes_at}
use Rattle.model.specs.Calls.{text_fits, replacement_fits, replaceable_at}
use Rattle.layout.specs.declared.Document.{Document}
use Rattle.layout.specs.Layout.{memory_ok}
use Rattle.memory.specs.Decode.{decode}
use Rattle.memory.specs.Undamaged.{Undamaged}

-- another field where the kind has a text that can be replaced: the content, the value, the URI
abbrev pub with_field : NodeData → Option TextSlot → NodeData
with_field Root f = Root
with_field (Element n a s) f = Element n a s
with_field (Attr n v) f = Attr n f
with_field (Text v) f = Text f
with_field (Comment v) f = Comment v
with_field (Namespace p u) f = Namespace p f
with_field (ProcessingInstruction t c) f = ProcessingInstruction t c

abbrev pub filled : Node → Option TextSlot → Node
filled m f = record { «data» = with_field m.«data» f; parent = m.parent; children = m.children }

-- test 4, of rules 1 and 8 that the counts are within their limits and the lengths add up, and a text slot with room for another text
pub record Overwritable (d : Document) (mem : List ℕ) (slot : ℕ) (text : List ℕ) : Type 0 where
  pub memory : memory_ok d (length mem) ≡ true
  pub counts : (decode d mem).counts_fit ≡ true
  pub lengths : (decode d mem).lengths_fit ≡ true
  pub there : slot < length (decode d mem).pool.texts
  pub room : text_fits (decode d mem) 0 (length (bytes_at (decode d mem) (Some slot))) (length text) ≡ true

-- a live node, and room for another text of it
pub record Replaceable (d : Document) (mem : List ℕ) (h : ℕ) (text : List ℕ) : Type 0 where
  pub undamaged : Undamaged d mem
  pub live : resolves (decode d mem) h ≡ true
  pub room : replacement_fits (decode d mem) (replaceable_at (decode d mem) h) text ≡ true
