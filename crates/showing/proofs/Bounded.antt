-- The block of a node's list as the document shows it, by the node that the handle resolves to.
-- Assumes nothing.
use mathlib.Core.Path.{◌≡◌, refl, sym, ap, ◌∙◌}
use mathlib.Core.Bool.{Bool, true, false, ◌&&◌, cond}
use mathlib.Core.List.{List}
use Prim.Native.Nat.{ℕ, ◌+◌, ◌≤◌, ◌<◌}
use native.Mathlib.Omega.{arith}
use lib.Dec.{leb}
use borrow.Author.Tests.{leb-true}
use Rattle.blocks.specs.Arena.{Block, block}
use Rattle.records.specs.Handles.{word_of, handle_index}
use Rattle.records.specs.declared.NodeId.{NodeId}
use Rattle.records.specs.declared.NodeData.{NodeData}
use Rattle.records.specs.declared.NodeData.TheVariants as given
use Rattle.records.specs.declared.Node.{Node}
use Rattle.records.proofs.Handles.{handle_index-word_of}
use Rattle.model.specs.Kinds.{Which, children, attributes, namespaces, is_element}
use Rattle.model.specs.Doc.{has_list, resolves, kind_at, range_in, shown_block}
use Rattle.layout.specs.declared.Document.{Document}
use Rattle.layout.specs.Layout.{entries_of}
use Rattle.memory.specs.Decode.{kind_of, element_range, range_of, arena_used, decode}
use Rattle.showing.proofs.Found.{by-node}

-- a block, or an empty one where it is not within an arena of this length
abbrev bounded : ℕ → Block → Block
bounded used b = cond (leb (b.start + b.len) used) b (block 0 0)

either-empty : (t : Bool) → block 0 0 ≡ cond t (block 0 0) (block 0 0)
either-empty true = refl
either-empty false = refl

-- only an element has attributes and namespaces
element-range : (w : Which) (v : NodeData) (used : ℕ)
    → cond (is_element (kind_of v) && leb ((element_range w v).start + (element_range w v).len) used) (element_range w v) (block 0 0) ≡ bounded used (element_range w v)
element-range w given.Root used = either-empty (leb (0 + 0) used)
element-range w (given.Element n a s) used = refl
element-range w (given.Attr n v) used = either-empty (leb (0 + 0) used)
element-range w (given.Text v) used = either-empty (leb (0 + 0) used)
element-range w (given.Comment v) used = either-empty (leb (0 + 0) used)
element-range w (given.Namespace p u) used = either-empty (leb (0 + 0) used)
element-range w (given.ProcessingInstruction t c) used = either-empty (leb (0 + 0) used)

shown-range : (w : Which) (m : Node) (used : ℕ)
    → cond (has_list w (is_element (kind_of m.«data»)) && leb ((range_of w m).start + (range_of w m).len) used) (range_of w m) (block 0 0) ≡ bounded used (range_of w m)
shown-range children m used = refl
shown-range attributes m used = element-range attributes m.«data» used
shown-range namespaces m used = element-range namespaces m.«data» used

module _ (d : Document) (mem : List ℕ) (h : NodeId) (hi : h.index < 4294967296) (hg : h.generation < 4294967296) (w : Which) (t : Bool) (e : t ≡ resolves (decode d mem) (word_of h)) where
  pub block-shown : t ≡ true → (b r : Block) (used : ℕ) → b ≡ range_in (decode d mem) w h.index → used ≡ arena_used d w
      → r ≡ cond (leb (b.start + b.len) used) b (block 0 0) → r ≡ shown_block (decode d mem) w (word_of h)
  block-shown q b r used k u c =
      by-node d mem h hi hg t e (r ≡ shown_block (decode d mem) w (word_of h)) q (λ m s.
      c
      ∙ ap (λ (x : Block). bounded used x) (k ∙ ap (range_in (decode d mem) w) (sym (handle_index-word_of h hi)) ∙ s.range w)
      ∙ ap (λ (n : ℕ). bounded n (range_of w m)) u
      ∙ sym (shown-range w m (arena_used d w))
      ∙ sym (rw (s.resolving, s.kind, s.range w)))

  pub block-stale : t ≡ false → block 0 0 ≡ shown_block (decode d mem) w (word_of h)
  block-stale f = sym (rw (sym e ∙ f))

-- what is shown lies in the arena
bounded-inside : (t : Bool) (e : Bool) (b : Block) (used : ℕ)
    → (cond (t && (e && leb (b.start + b.len) used)) b (block 0 0)).start + (cond (t && (e && leb (b.start + b.len) used)) b (block 0 0)).len ≤ used
bounded-inside false e b used = omega arith
bounded-inside true false b used = omega arith
bounded-inside true true b used = go (leb (b.start + b.len) used) refl
  where
    go : (u : Bool) → leb (b.start + b.len) used ≡ u → (cond u b (block 0 0)).start + (cond u b (block 0 0)).len ≤ used
    go true q = leb-true _ _ q
    go false q = omega arith

module _ (d : Document) (mem : List ℕ) (w : Which) where
  pub used-inside : arena_used d w ≤ entries_of d.limits w
  used-inside = omega arith

  pub shown-inside : (h : ℕ) (b : Block) → b ≡ shown_block (decode d mem) w h → b.start + b.len ≤ entries_of d.limits w
  shown-inside h b e =
      let D = decode d mem in
      let q = bounded-inside (resolves D h) (has_list w (is_element (kind_at D h))) (range_in D w (handle_index h)) (arena_used d w) in
      let k : b.start + b.len ≤ arena_used d w = rw e q in
      omega (arith, used-inside)
