-- What each writing step does to the document: one column changed, all else equal.
-- Assumes nothing.
use Rattle.records.specs.declared.NodeId.{NodeId}
use Rattle.std.specs.Prelude.{Option, None, Some}
use mathlib.Core.Path.{◌≡◌, refl, sym, ap, ◌∙◌}
use mathlib.Core.Bool.{Bool, true, false, cond, false≢true}
use mathlib.Core.List.{List, reverse}
use Prim.Native.Nat.{ℕ, ◌*◌, ◌≤◌, ◌<◌}
use native.Mathlib.Omega.{arith}
use lib.ListN.{length, set}
use lib.Dec.{ltb}
use borrow.Author.Tests.{ltb-true}
use Rattle.words.specs.Lists.{tabulate}
use Rattle.blocks.specs.Arena.{Block}
use Rattle.records.specs.Fields.{RangeFits, ParentFits, ChildrenFit, NodeFits}
use Rattle.records.specs.Handles.{handle_index}
use Rattle.records.specs.Records.{span_of, record_of, node_of}
use Rattle.records.specs.Ranges.{with_children, with_parent}
use Rattle.slots.specs.Regions.{slots_words, generation_at, record_at, node_at, put_record}
use Rattle.records.specs.declared.Range.{Range}
use Rattle.records.specs.declared.NodeData.{NodeData}
use Rattle.records.specs.declared.NodeData.TheVariants as given
use Rattle.records.specs.declared.Node.{Node}
use Rattle.records.specs.declared.NodeRecord.{NodeRecord}
use Rattle.records.proofs.Records.{record-back, node-back, found-fits}
use Rattle.records.proofs.Ranges.{node-with_children, node-with_attributes, node-with_namespaces}
use Rattle.slots.proofs.Regions.{length-put_record}
use Rattle.texts.specs.Pool.{Pool}
use Rattle.names.specs.Table.{Name}
use Rattle.model.specs.Kinds.{Kind, Which, children, attributes, namespaces, same_which, is_element}
use Rattle.model.specs.Doc.{Doc, change_slots, change_nodes, change_order}
use Rattle.model.specs.Rules.{has_range}
use Rattle.model.specs.Edits.{set_parent}
use Rattle.layout.specs.declared.Counts.{Counts}
use Rattle.layout.specs.declared.Document.{Document}
use Rattle.layout.specs.Layout.{memory_ok}
use Rattle.memory.specs.Decode.{kind_of, handle_of, block_of, range_of, kind_loaded, parent_loaded, range_loaded, loaded_at, slots_part, slots_made, slots_free, decode_with}
use Rattle.memory.specs.Writing.{put_words, words_at, with_range, put_node, put_range, put_parent, set_node, set_range}
use Rattle.layout.specs.Record.{record_with, outdated}
use Rattle.memory.proofs.Shaped.{length-slots_part}
use Rattle.memory.proofs.Columned.{loaded-here, gens-kept, free-kept, order-kept, column-set, column-kept}
use Rattle.memory.proofs.Written.{length-put_slots, decode-put_slots, update-is}

made-fits : (d : Document) → slots_made d ≤ d.limits.nodes
made-fits d = omega arith

free-fits : (d : Document) → slots_free d ≤ d.limits.nodes
free-fits d = omega arith

-- what was loaded: a generation of 32 bits, and words that are the node
pub record LoadedAs (n : ℕ) (w : List ℕ) (s : ℕ) (m : Node) : Type 0 where
  pub generation : generation_at n w s < 4294967296
  pub node : node_of (record_at n w s) ≡ Some m

pub loaded-as : (n : ℕ) (w : List ℕ) (s : ℕ) (m : Node) → loaded_at n w s ≡ Some m → LoadedAs n w s m
unfolding node_at
loaded-as n w s m e = go (ltb (generation_at n w s) 4294967296) refl e
  where
    go : (t : Bool) → ltb (generation_at n w s) 4294967296 ≡ t → cond t (node_of (record_at n w s)) None ≡ Some m → LoadedAs n w s m
    go true q k = record { generation = ltb-true _ _ q; node = k }
    go false q k =
        let z : ◌≡◌ {A = ℕ} 0 1 = cc in
        absurd (omega arith)

-- ---- a range replaced in the words of a node

pub record Ranged (w : Which) (m : Node) (c : Range) (l : Option Node) : Type 0 where
  pub kind : kind_loaded l ≡ Some (kind_of m.«data»)
  pub parent : parent_loaded l ≡ handle_of m.parent
  pub here : range_loaded w l ≡ block_of c
  pub other : (v : Which) → same_which v w ≡ false → range_loaded v l ≡ range_of v m

module _ (r : NodeRecord) (m : Node) (c : Range) (e : node_of r ≡ Some m) (f : RangeFits c) where
  ranged-children : has_range children (kind_of m.«data») ≡ true → Ranged children m c (node_of (with_children r (span_of c)))
  ranged-children k =
      rw (node-with_children r m c e (fits m.«data» k))
      (record { kind = refl; parent = refl; here = refl; other = others })
    where
      fits : (x : NodeData) → has_range children (kind_of x) ≡ true → ChildrenFit x c
      fits given.Root q = f
      fits (given.Element _ _ _) q = f
      fits (given.Attr _ _) q = absurd (false≢true q)
      fits (given.Text _) q = f
      fits (given.Comment _) q = f
      fits (given.Namespace _ _) q = absurd (false≢true q)
      fits (given.ProcessingInstruction _ _) q = f

      others : (v : Which) → same_which v children ≡ false → range_of v (record { «data» = m.«data»; parent = m.parent; children = c }) ≡ range_of v m
      others children q = absurd (false≢true (sym q))
      others attributes q = refl
      others namespaces q = refl

  abbrev with_data : NodeData → Node
  with_data x = record { «data» = x; parent = m.parent; children = m.children }

  ranged-element : (w : Which) (x : NodeData) → m.«data» ≡ x → is_element (kind_of x) ≡ true → same_which w children ≡ false
      → Ranged w (with_data x) c (node_of (with_range w r (span_of c)))
  ranged-element w given.Root q i k = absurd (false≢true i)
  ranged-element w (given.Attr _ _) q i k = absurd (false≢true i)
  ranged-element w (given.Text _) q i k = absurd (false≢true i)
  ranged-element w (given.Comment _) q i k = absurd (false≢true i)
  ranged-element w (given.Namespace _ _) q i k = absurd (false≢true i)
  ranged-element w (given.ProcessingInstruction _ _) q i k = absurd (false≢true i)
  ranged-element children (given.Element x a s) q i k = absurd (false≢true (sym k))
  ranged-element attributes (given.Element x a s) q i k =
      rw (node-with_attributes r x a s m.parent m.children c (e ∙ ap (λ (y : NodeData). Some (with_data y)) q) f)
      (record { kind = refl; parent = refl; here = refl; other = others })
    where
      others : (v : Which) → same_which v attributes ≡ false → range_of v (with_data (given.Element x c s)) ≡ range_of v (with_data (given.Element x a s))
      others children q = refl
      others attributes q = absurd (false≢true (sym q))
      others namespaces q = refl
  ranged-element namespaces (given.Element x a s) q i k =
      rw (node-with_namespaces r x a s m.parent m.children c (e ∙ ap (λ (y : NodeData). Some (with_data y)) q) f)
      (record { kind = refl; parent = refl; here = refl; other = others })
    where
      others : (v : Which) → same_which v namespaces ≡ false → range_of v (with_data (given.Element x a c)) ≡ range_of v (with_data (given.Element x a s))
      others children q = refl
      others attributes q = refl
      others namespaces q = absurd (false≢true (sym q))

pub ranged : (w : Which) (r : NodeRecord) (m : Node) (c : Range) → node_of r ≡ Some m → has_range w (kind_of m.«data») ≡ true → RangeFits c
    → Ranged w m c (node_of (with_range w r (span_of c)))
ranged children r m c e k f = ranged-children r m c e f k
ranged attributes r m c e k f = ranged-element r m c e f attributes m.«data» refl k refl
ranged namespaces r m c e k f = ranged-element r m c e f namespaces m.«data» refl k refl

-- ---- the words of one slot replaced

module _ (d : Document) (mem : List ℕ) (ok : memory_ok d (length mem) ≡ true) (s : ℕ) (b : s < d.limits.nodes) (r : NodeRecord) where
  abbrev n : ℕ
  n = d.limits.nodes

  abbrev w : List ℕ
  w = slots_part d mem

  long : slots_words n ≤ length w
  long = omega (arith, length-slots_part d mem ok)

  size : length (put_record n w s r) ≡ 15 * n
  size = length-put_record n w long s r b ∙ length-slots_part d mem ok

  pub length-put_words : length (put_words d mem s r) ≡ length mem
  length-put_words = length-put_slots d mem (put_record n w s r) ok size

  -- the three columns of what is loaded, and all else equal
  module _ (p : Pool) (names : List (Option Name)) (lengths : Bool) (counts : Counts) (current : Bool) where
    abbrev e : Document
    e = record_with d counts current

    abbrev D : Doc
    D = decode_with p names lengths e mem

    module _ {K : List (Option (Kind ℕ (Option ℕ)))} {P : List (Option ℕ)} {R : Which → List Block}
        (k : tabulate (λ t. kind_loaded (loaded_at n (put_record n w s r) t)) (slots_made e) ≡ K)
        (q : tabulate (λ t. parent_loaded (loaded_at n (put_record n w s r) t)) (slots_made e) ≡ P)
        (v : (a : Which) → tabulate (λ t. range_loaded a (loaded_at n (put_record n w s r) t)) (slots_made e) ≡ R a) where
      decode-words : decode_with p names lengths e (put_words d mem s r) ≡ change_nodes D K P R
      decode-words =
          decode-put_slots d mem (put_record n w s r) ok size p names lengths counts current
          ∙ (λ i.
          let gens = gens-kept n w long s r b (slots_made e) (made-fits e) i in
          let free = reverse (free-kept n w long s r b (slots_free e) (free-fits e) i) in
          change_order (change_slots (change_nodes D (k i) (q i) (λ a. v a i)) gens free) (order-kept n w long s r b n (omega arith) i) current)

    module _ (h : s < slots_made (record_with d counts current)) where
      kinds-set : (x : Option Node) → loaded_at n (put_record n w s r) s ≡ x → tabulate (λ t. kind_loaded (loaded_at n (put_record n w s r) t)) (slots_made e) ≡ set D.kinds s (kind_loaded x)
      kinds-set x f = column-set n w long s r b (slots_made e) (made-fits e) kind_loaded (kind_loaded x) h (ap kind_loaded f)

      parents-set : (x : Option Node) → loaded_at n (put_record n w s r) s ≡ x → tabulate (λ t. parent_loaded (loaded_at n (put_record n w s r) t)) (slots_made e) ≡ set D.parents s (parent_loaded x)
      parents-set x f = column-set n w long s r b (slots_made e) (made-fits e) parent_loaded (parent_loaded x) h (ap parent_loaded f)

      ranges-set : (x : Option Node) (a : Which) → loaded_at n (put_record n w s r) s ≡ x → tabulate (λ t. range_loaded a (loaded_at n (put_record n w s r) t)) (slots_made e) ≡ set (D.ranges a) s (range_loaded a x)
      ranges-set x a f = column-set n w long s r b (slots_made e) (made-fits e) (range_loaded a) (range_loaded a x) h (ap (range_loaded a) f)

    kept : {A : Type 0} (f : Option Node → A) (x y : Option Node) → loaded_at n (put_record n w s r) s ≡ x → loaded_at n w s ≡ y → f x ≡ f y
        → tabulate (λ t. f (loaded_at n (put_record n w s r) t)) (slots_made e) ≡ tabulate (λ t. f (loaded_at n w t)) (slots_made e)
    kept f x y ex ey q = column-kept n w long s r b (slots_made e) (made-fits e) f (ap f ex ∙ q ∙ sym (ap f ey))

-- ---- the steps

module _ (p : Pool) (names : List (Option Name)) (lengths : Bool) (d : Document) (mem : List ℕ) (ok : memory_ok d (length mem) ≡ true) (s : ℕ) (h : s < slots_made d) where
  abbrev bound : s < d.limits.nodes
  bound = omega (arith, made-fits d)

  long-slots : slots_words d.limits.nodes ≤ length (slots_part d mem)
  long-slots = omega (arith, length-slots_part d mem ok)

  -- a node stored in a slot whose generation is of 32 bits
  pub decode-put_node : (m : Node) → NodeFits m → generation_at d.limits.nodes (slots_part d mem) s < 4294967296
      → decode_with p names lengths d (put_node d mem s m)
      ≡ set_node (decode_with p names lengths d mem) s (Some (kind_of m.«data»)) (handle_of m.parent) (λ a. range_of a m)
  unfolding put_node set_node
  decode-put_node m f g =
      let r = record_of m in
      let e : loaded_at d.limits.nodes (put_record d.limits.nodes (slots_part d mem) s r) s ≡ Some m =
      loaded-here d.limits.nodes (slots_part d mem) long-slots s r bound (Some m) g (node-back m f) in
      decode-words d mem ok s bound r p names lengths d.counts d.current
      (kinds-set d mem ok s bound r p names lengths d.counts d.current h (Some m) e)
      (parents-set d mem ok s bound r p names lengths d.counts d.current h (Some m) e)
      (λ a. ranges-set d mem ok s bound r p names lengths d.counts d.current h (Some m) a e)

  -- the node that was there, with another parent
  module _ (m : Node) (e : loaded_at d.limits.nodes (slots_part d mem) s ≡ Some m) where
    adopted : Option NodeId → Node
    adopted q = record { «data» = m.«data»; parent = q; children = m.children }

    node-with_parent : (q : Option NodeId) → ParentFits q → node_of (with_parent (words_at d mem s) q) ≡ Some (record { «data» = m.«data»; parent = q; children = m.children })
    unfolding record_of
    node-with_parent q f =
        let l = loaded-as d.limits.nodes (slots_part d mem) s m e in
        let g = found-fits (words_at d mem s) m l.node in
        ap (λ (x : NodeRecord). node_of (with_parent x q)) (sym (record-back (words_at d mem s) m l.node))
        ∙ node-back (record { «data» = m.«data»; parent = q; children = m.children }) (record { fits-data = g.fits-data; fits-parent = f; fits-children = g.fits-children })

    pub decode-put_parent : (q : Option NodeId) → ParentFits q → (h' : ℕ) → handle_index h' ≡ s
        → decode_with p names lengths (outdated d) (put_parent d mem s q) ≡ set_parent (decode_with p names lengths d mem) h' (handle_of q)
    unfolding put_parent set_parent
    decode-put_parent q f h' j =
        let l = loaded-as d.limits.nodes (slots_part d mem) s m e in
        let r = with_parent (words_at d mem s) q in
        let m' : Node = record { «data» = m.«data»; parent = q; children = m.children } in
        let e' : loaded_at d.limits.nodes (put_record d.limits.nodes (slots_part d mem) s r) s ≡ Some m' =
        loaded-here d.limits.nodes (slots_part d mem) long-slots s r bound (Some m') l.generation (node-with_parent q f) in
        decode-words d mem ok s bound r p names lengths d.counts false
        (kept d mem ok s bound r p names lengths d.counts false kind_loaded (Some m') (Some m) e' e refl)
        (parents-set d mem ok s bound r p names lengths d.counts false h (Some m') e'
        ∙ ap (λ (k : ℕ). set (decode_with p names lengths d mem).parents k (handle_of q)) (sym j))
        (λ a. kept d mem ok s bound r p names lengths d.counts false (range_loaded a) (Some m') (Some m) e' e (same-range a))
      where
        same-range : (a : Which) → range_of a (record { «data» = m.«data»; parent = q; children = m.children }) ≡ range_of a m
        same-range children = refl
        same-range attributes = refl
        same-range namespaces = refl

    -- the node that was there, with another range that its kind has
    pub decode-put_range : (a : Which) (c : Range) → has_range a (kind_of m.«data») ≡ true → RangeFits c
        → decode_with p names lengths d (put_range d mem s a c) ≡ set_range (decode_with p names lengths d mem) a s (block_of c)
    unfolding put_range set_range
    decode-put_range a c k f =
        let n = d.limits.nodes in
        let w = slots_part d mem in
        let l = loaded-as n w s m e in
        let r = with_range a (words_at d mem s) (span_of c) in
        let g = ranged a (words_at d mem s) m c l.node k f in
        let e' : loaded_at n (put_record n w s r) s ≡ node_of r = loaded-here n w long-slots s r bound (node_of r) l.generation refl in
        decode-words d mem ok s bound r p names lengths d.counts d.current
        (kept d mem ok s bound r p names lengths d.counts d.current kind_loaded (node_of r) (Some m) e' e g.kind)
        (kept d mem ok s bound r p names lengths d.counts d.current parent_loaded (node_of r) (Some m) e' e g.parent)
        (update-is (decode_with p names lengths d mem).ranges (λ v. tabulate (λ t. range_loaded v (loaded_at n (put_record n w s r) t)) (slots_made d)) a
        (set ((decode_with p names lengths d mem).ranges a) s (block_of c))
        (ranges-set d mem ok s bound r p names lengths d.counts d.current h (node_of r) a e' ∙ ap (set ((decode_with p names lengths d mem).ranges a) s) g.here)
        (λ v ne. kept d mem ok s bound r p names lengths d.counts d.current (range_loaded v) (node_of r) (Some m) e' e (g.other v ne)))
