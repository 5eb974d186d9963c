-- What replacing a range of a record does to the node that its words are.
-- Assumes nothing.
use Rattle.records.specs.declared.NodeId.{NodeId}
use Rattle.std.specs.Prelude.{Option, Some}
use mathlib.Core.Path.{◌≡◌, refl, sym, ap, ◌∙◌}
use Rattle.words.specs.declared.NameId.{NameId}
use Rattle.records.specs.declared.Range.{Range}
use Rattle.records.specs.declared.NodeData.TheVariants.{Element}
use Rattle.records.specs.declared.Node.{Node}
use Rattle.records.specs.declared.NodeRecord.{NodeRecord}
use Rattle.records.specs.Records.{span_of, record_of, node_of}
use Rattle.records.specs.Fields.{RangeFits, ChildrenFit, NodeFits}
use Rattle.records.specs.Ranges.{with_children, with_attributes, with_namespaces}
use Rattle.records.proofs.Records.{record-back, node-back, found-fits}

-- words that are a node, with a change after which they are the words of another node that fits
changed : (r : NodeRecord) (n m : Node) (change : NodeRecord → NodeRecord) → node_of r ≡ Some n → change (record_of n) ≡ record_of m → NodeFits m → node_of (change r) ≡ Some m
changed r n m change e q f = ap (λ (w : NodeRecord). node_of (change w)) (sym (record-back r n e)) ∙ ap node_of q ∙ node-back m f

-- a node with another block of children
module _ (r : NodeRecord) (n : Node) (c : Range) where
  abbrev with_block : Node
  with_block = record { «data» = n.«data»; parent = n.parent; children = c }

  pub node-with_children : node_of r ≡ Some n → ChildrenFit n.«data» c → node_of (with_children r (span_of c)) ≡ Some with_block
  unfolding record_of
  node-with_children e b =
      let f = found-fits r n e in
      changed r n with_block (λ w. with_children w (span_of c)) e refl (record { fits-data = f.fits-data; fits-parent = f.fits-parent; fits-children = b })

-- an element with another block of attributes or of namespaces
module _ (r : NodeRecord) (name : NameId) (attributes namespaces : Range) (parent : Option NodeId) (children c : Range) where
  abbrev element : Range → Range → Node
  element a s = record { «data» = Element name a s; parent = parent; children = children }

  pub node-with_attributes : node_of r ≡ Some (element attributes namespaces) → RangeFits c → node_of (with_attributes r (span_of c)) ≡ Some (element c namespaces)
  unfolding record_of
  node-with_attributes e b =
      let f = found-fits r (element attributes namespaces) e in
      changed r (element attributes namespaces) (element c namespaces) (λ w. with_attributes w (span_of c)) e refl
      (record { fits-data = (f.fits-data.0, b, f.fits-data.2); fits-parent = f.fits-parent; fits-children = f.fits-children })

  pub node-with_namespaces : node_of r ≡ Some (element attributes namespaces) → RangeFits c → node_of (with_namespaces r (span_of c)) ≡ Some (element attributes c)
  unfolding record_of
  node-with_namespaces e b =
      let f = found-fits r (element attributes namespaces) e in
      changed r (element attributes namespaces) (element attributes c) (λ w. with_namespaces w (span_of c)) e refl
      (record { fits-data = (f.fits-data.0, f.fits-data.1, b); fits-parent = f.fits-parent; fits-children = f.fits-children })
