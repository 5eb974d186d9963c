-- 01, rule 1, "words within their fields", as readable propositions: of the twelve words, and of a node's numbers.
use Rattle.words.specs.declared.TextSlot.{TextSlot}
use Rattle.records.specs.declared.NodeId.{NodeId}
use Rattle.std.specs.Prelude.{◌≡◌, Bool, not, ◌≤◌, ◌<◌, eqb, Option, None, Some}
use Rattle.records.specs.declared.Range.{Range}
use Rattle.records.specs.declared.NodeData.{NodeData}
use Rattle.records.specs.declared.NodeData.TheVariants.{Root, Element, Attr, Text, Comment, Namespace, ProcessingInstruction}
use Rattle.records.specs.declared.Node.{Node}
use Rattle.records.specs.declared.Span.{Span}
use Rattle.records.specs.declared.NodeRecord.{NodeRecord}
use Rattle.records.specs.Records.{most, has_name, has_first, has_second, has_children, has_lists}

abbrev pub SpanWithin : Bool → Span → Type 0
SpanWithin used s = (s.start ≤ most used 4294967295) × (s.len ≤ most used 4294967295)

-- each word is of 32 bits, a text's and a parent's one more; a word that its kind has no use for is zero
pub record Within (r : NodeRecord) : Type 0 where
  pub kind : r.kind ≤ 6
  pub name : r.name ≤ most (has_name r.kind) 4294967295
  pub first : r.first ≤ most (has_first r.kind) 4294967296
  pub second : r.second ≤ most (has_second r.kind) 4294967296
  pub parent : r.parent ≤ 4294967296
  pub generation : r.generation ≤ most (not (eqb r.parent 0)) 4294967295
  pub children : SpanWithin (has_children r.kind) r.children
  pub attributes : SpanWithin (has_lists r.kind) r.attributes
  pub namespaces : SpanWithin (has_lists r.kind) r.namespaces

abbrev pub RangeFits : Range → Type 0
RangeFits r = (r.start < 4294967296) × (r.len < 4294967296)

abbrev pub CharsFit : Option TextSlot → Type 0
CharsFit None = Unit {0}
CharsFit (Some t) = t.0 < 4294967296

abbrev pub ParentFits : Option NodeId → Type 0
ParentFits None = Unit {0}
ParentFits (Some h) = (h.index < 4294967296) × (h.generation < 4294967296)

abbrev pub DataFits : NodeData → Type 0
DataFits Root = Unit {0}
DataFits (Element n a s) = (n.0 < 4294967296) × RangeFits a × RangeFits s
DataFits (Attr n v) = (n.0 < 4294967296) × CharsFit v
DataFits (Text v) = CharsFit v
DataFits (Comment v) = CharsFit v
DataFits (Namespace p u) = CharsFit p × CharsFit u
DataFits (ProcessingInstruction t d) = CharsFit t × CharsFit d

-- an attribute and a namespace have no block of children
abbrev pub Childless : Range → Type 0
Childless r = (r.start ≡ 0) × (r.len ≡ 0)

abbrev pub ChildrenFit : NodeData → Range → Type 0
ChildrenFit Root r = RangeFits r
ChildrenFit (Element n a s) r = RangeFits r
ChildrenFit (Attr n v) r = Childless r
ChildrenFit (Text v) r = RangeFits r
ChildrenFit (Comment v) r = RangeFits r
ChildrenFit (Namespace p u) r = Childless r
ChildrenFit (ProcessingInstruction t d) r = RangeFits r

-- a node whose numbers are of 32 bits
pub record NodeFits (n : Node) : Type 0 where
  pub fits-data : DataFits n.«data»
  pub fits-parent : ParentFits n.parent
  pub fits-children : ChildrenFit n.«data» n.children
