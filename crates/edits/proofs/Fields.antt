-- Another text in a node's field, and over the text of a slot.
-- Assumes nothing.
use Rattle.words.specs.declared.TextSlot.{TextSlot}
use Rattle.std.specs.Prelude.{Option, None, Some}
use mathlib.Core.Path.{◌≡◌, refl, sym, ap, subst, ◌∙◌}
use mathlib.Core.Bool.{true}
use mathlib.Core.List.{List, [], ◌∷◌}
use Prim.Native.Nat.{ℕ, zero, suc, ◌<◌}
use native.Mathlib.Omega.{arith}
use lib.ListN.{length, get_or, set}
use Rattle.words.specs.Ends.{length_of}
use Rattle.blocks.specs.Arena.{Block, block}
use Rattle.records.specs.Fields.{CharsFit, DataFits, ChildrenFit, NodeFits}
use Rattle.records.specs.Handles.{handle_index, word_of}
use Rattle.records.specs.declared.NodeId.{NodeId}
use Rattle.records.specs.declared.Range.{Range}
use Rattle.records.specs.declared.NodeData.{NodeData}
use Rattle.records.specs.declared.NodeData.TheVariants as given
use Rattle.records.specs.declared.Node.{Node}
use Rattle.records.proofs.Handles.{handle_index-word_of}
use Rattle.texts.specs.Pool.{Pool, text_at, replaced, texts_fit}
use Rattle.texts.specs.Words.{pool_of, counts_fit, Counted, ReplacedTo}
use Rattle.texts.specs.declared.TextCounts.{TextCounts}
use Rattle.texts.proofs.Words.{pool-slots, text-length, fits-pool}
use Rattle.model.specs.Kinds.{Kind, Which, children, attributes, namespaces, with_text}
use Rattle.model.specs.Doc.{Doc, change_nodes, kind_at}
use Rattle.model.specs.Edits.{set_kind}
use Rattle.layout.specs.declared.Document.{Document}
use Rattle.memory.specs.Decode.{slot_of, kind_of, handle_of, element_range, range_of, range_loaded, loaded_at, slots_part, slots_made, text_limits, text_counts, texts_part, pool_in, names_in, lengths_add, decode}
use Rattle.memory.specs.Step.{Step}
use Rattle.layout.specs.Record.{with_texts}
use Rattle.memory.specs.Writing.{put_node, set_node, put_texts}
use Rattle.memory.proofs.Columns.{length-gens, parent-found, range-in}
use Rattle.memory.proofs.Shaped.{loaded-fits, shape}
use Rattle.memory.proofs.Shown.{pool-held}
use Rattle.memory.proofs.Steps.{loaded-as}
use Rattle.memory.proofs.Promises.{node-promise}
use Rattle.edits.specs.Asked.{NodeHeld}
use Rattle.edits.specs.Pooled.{set_pool}
use Rattle.edits.specs.Replacing.{with_field, filled, Overwritable}
use Rattle.memory.proofs.Past.{PastKept, words-past}
use Rattle.edits.proofs.Moved.{node_made, node-slot, kind-loaded}
use Rattle.edits.proofs.Repooled.{texts-counted, texts-changed}

-- an entry set to what it is
module _ {A : Type 0} where
  pub set-kept : (l : List A) (i : ℕ) (d v : A) → i < length l → get_or l i d ≡ v → set l i v ≡ l
  set-kept [] i d v b e = absurd (omega arith)
  set-kept (x ∷ l) zero d v b e = ap (λ (y : A). y ∷ l) (sym e)
  set-kept (x ∷ l) (suc i) d v b e = ap (λ (m : List A). x ∷ m) (set-kept l i d v (omega arith) e)

-- ---- a node with another field

field-kind : (x : NodeData) (f : Option TextSlot) → kind_of (with_field x f) ≡ with_text (kind_of x) (slot_of f)
field-kind given.Root f = refl
field-kind (given.Element n a s) f = refl
field-kind (given.Attr n v) f = refl
field-kind (given.Text v) f = refl
field-kind (given.Comment v) f = refl
field-kind (given.Namespace p u) f = refl
field-kind (given.ProcessingInstruction t c) f = refl

field-data : (x : NodeData) (f : Option TextSlot) → CharsFit f → DataFits x → DataFits (with_field x f)
field-data given.Root f c h = h
field-data (given.Element n a s) f c h = h
field-data (given.Attr n v) f c h = (h.0, c)
field-data (given.Text v) f c h = c
field-data (given.Comment v) f c h = h
field-data (given.Namespace p u) f c h = (h.0, c)
field-data (given.ProcessingInstruction t d) f c h = h

field-children : (x : NodeData) (f : Option TextSlot) (r : Range) → ChildrenFit x r → ChildrenFit (with_field x f) r
field-children given.Root f r h = h
field-children (given.Element n a s) f r h = h
field-children (given.Attr n v) f r h = h
field-children (given.Text v) f r h = h
field-children (given.Comment v) f r h = h
field-children (given.Namespace p u) f r h = h
field-children (given.ProcessingInstruction t c) f r h = h

field-range : (w : Which) (x : NodeData) (f : Option TextSlot) → element_range w (with_field x f) ≡ element_range w x
field-range w given.Root f = refl
field-range w (given.Element n a s) f = refl
field-range w (given.Attr n v) f = refl
field-range w (given.Text v) f = refl
field-range w (given.Comment v) f = refl
field-range w (given.Namespace p u) f = refl
field-range w (given.ProcessingInstruction t c) f = refl

filled-fits : (m : Node) (f : Option TextSlot) → CharsFit f → NodeFits m → NodeFits (filled m f)
filled-fits m f c h =
    record {
      fits-data = field-data m.«data» f c h.fits-data;
      fits-parent = h.fits-parent;
      fits-children = field-children m.«data» f m.children h.fits-children;
    }

filled-range : (w : Which) (m : Node) (f : Option TextSlot) → range_of w (filled m f) ≡ range_of w m
filled-range children m f = refl
filled-range attributes m f = field-range attributes m.«data» f
filled-range namespaces m f = field-range namespaces m.«data» f

-- a node stored with the parent and the blocks that it had is another kind
kind-alone : (D : Doc) (s h : ℕ) → handle_index h ≡ s → (k k' : Kind ℕ (Option ℕ)) → k ≡ k' → (p : Option ℕ) → set D.parents s p ≡ D.parents
    → (r : Which → Block) → ((w : Which) → set (D.ranges w) s (r w) ≡ D.ranges w) → set_node D s (Some k) p r ≡ set_kind D h k' D.pool
unfolding set_node set_kind
kind-alone D s h j k k' ek p ep r er = λ i. change_nodes D (set D.kinds (sym j i) (Some (ek i))) (ep i) (λ w. er w i)

module _ (d : Document) (mem : List ℕ) (id : NodeId) (hi : id.index < 4294967296) (h : NodeHeld d mem (word_of id))
    (m : Node) (e : loaded_at d.limits.nodes (slots_part d mem) id.index ≡ Some m) where
  abbrev D : Doc
  D = decode d mem

  made : id.index < slots_made d
  made = node_made d mem id hi h

  module _ (f : Option TextSlot) (c : CharsFit f) where
    parents-kept : set (decode d mem).parents id.index (handle_of m.parent) ≡ (decode d mem).parents
    parents-kept =
        let z = shape (pool_in d mem) (names_in d mem) (lengths_add d mem) d mem h.memory in
        set-kept D.parents id.index None (handle_of m.parent) (omega (arith, z.parents, length-gens (pool_in d mem) (names_in d mem) (lengths_add d mem) d mem, made))
        (parent-found (pool_in d mem) (names_in d mem) (lengths_add d mem) d mem id.index made m e)

    ranges-kept : (w : Which) → set ((decode d mem).ranges w) id.index (range_of w (filled m f)) ≡ (decode d mem).ranges w
    ranges-kept w =
        let z = shape (pool_in d mem) (names_in d mem) (lengths_add d mem) d mem h.memory in
        set-kept (D.ranges w) id.index (block 0 0) (range_of w (filled m f)) (omega (arith, z.ranges w, length-gens (pool_in d mem) (names_in d mem) (lengths_add d mem) d mem, made))
        (range-in (pool_in d mem) (names_in d mem) (lengths_add d mem) d mem id.index made w ∙ ap (range_loaded w) e ∙ sym (filled-range w m f))

    past : PastKept d mem (put_node d mem id.index (filled m f))
    unfolding put_node
    past = words-past d mem h.memory id.index (node-slot d mem id hi h) _

    pub field_step : (n : Node) → n ≡ filled m f
        → Step d mem d (put_node d mem id.index n) (set_kind (decode d mem) (word_of id) (with_text (kind_at (decode d mem) (word_of id)) (slot_of f)) (decode d mem).pool)
    field_step n en =
        let k = with_text (kind_at D (word_of id)) (slot_of f) in
        let stepped : Step d mem d (put_node d mem id.index (filled m f)) (set_kind (decode d mem) (word_of id) (with_text (kind_at (decode d mem) (word_of id)) (slot_of f)) (decode d mem).pool) =
        record {
          document =
              node-promise d mem h.memory id.index made (filled m f) (filled-fits m f c (loaded-fits d.limits.nodes (slots_part d mem) id.index m e))
              (loaded-as d.limits.nodes (slots_part d mem) id.index m e).generation
              ∙ kind-alone D id.index (word_of id) (handle_index-word_of id hi) (kind_of (with_field m.«data» f)) k
              (field-kind m.«data» f ∙ ap (λ (x : Kind ℕ (Option ℕ)). with_text x (slot_of f)) (sym (kind-loaded d mem id hi h m e))) (handle_of m.parent) parents-kept (λ w. range_of w (filled m f)) ranges-kept;
          limits = refl;
          size = past.size;
          past = past.past;
        } in
        subst (λ (x : Node). Step d mem d (put_node d mem id.index x) (set_kind D (word_of id) k D.pool)) (sym en) stepped

-- ---- a text over that of a slot

module _ (d : Document) (mem : List ℕ) (slot : ℕ) (t : List ℕ) (s : Overwritable d mem slot t) where
  counted : Counted (text_limits d) (text_counts d) (texts_part d mem)
  counted = texts-counted d mem s.memory s.counts s.lengths

  slot-there : slot < d.counts.texts
  slot-there =
      let q : length (pool_in d mem).texts ≡ length (pool_of (text_limits d) (text_counts d) (texts_part d mem)).texts = ap (λ (p : Pool). length p.texts) (pool-held d mem counted) in
      omega (arith, s.there, pool-slots (text_limits d) (text_counts d) (texts_part d mem) counted)

  fits : counts_fit (text_limits d) (text_counts d) 0 (length_of (texts_part d mem) slot) (length t) ≡ true
  fits =
      ap (λ (n : ℕ). counts_fit (text_limits d) (text_counts d) 0 n (length t))
      (sym (text-length (text_limits d) (text_counts d) (texts_part d mem) counted slot slot-there) ∙ ap (λ (p : Pool). length (text_at p (Some slot))) (sym (pool-held d mem counted)))
      ∙ fits-pool (text_limits d) (text_counts d) (texts_part d mem) counted 0 (length (text_at (pool_in d mem) (Some slot))) (length t)
      ∙ ap (λ (p : Pool). texts_fit d.limits.texts d.limits.textbytes p 0 (length (text_at (pool_in d mem) (Some slot))) (length t)) (sym (pool-held d mem counted))
      ∙ s.room

  pub over-asked : Counted (text_limits d) (text_counts d) (texts_part d mem) × (slot < d.counts.texts)
      × (counts_fit (text_limits d) (text_counts d) 0 (length_of (texts_part d mem) slot) (length t) ≡ true)
  over-asked = (counted, slot-there, fits)

  pub over-step : (mem' : List ℕ) (r : TextCounts) → ReplacedTo (text_limits d) (text_counts d) (texts_part d mem) (texts_part d mem') slot t r
      → mem' ≡ put_texts d (texts_part d mem') mem → (e : Document) → e ≡ with_texts d r → Step d mem e mem' (set_pool (decode d mem) (replaced (decode d mem).pool (Some slot) t))
  over-step mem' r k em e ee =
      texts-changed d mem s.memory s.counts s.lengths mem' r k.counted em (replaced (decode d mem).pool (Some slot) t)
      (k.pool ∙ ap (λ (x : Pool). replaced x (Some slot) t) (sym (pool-held d mem counted))) e ee
