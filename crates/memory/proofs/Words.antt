-- The words of a live slot's record, and what the document has there.
-- Assumes nothing.
use Rattle.words.specs.declared.TextSlot.{TextSlot}
use Rattle.records.specs.declared.NodeId.{NodeId}
use Rattle.std.specs.Prelude.{Option, None, Some}
use mathlib.Core.Path.{◌≡◌, refl, sym, ap, ◌∙◌}
use mathlib.Core.Bool.{Bool, true, false, cond, false≢true}
use mathlib.Core.List.{List}
use Prim.Native.Nat.{ℕ, ◌+◌, ◌-◌, ◌*◌, ◌<◌, ◌≤◌}
use native.Mathlib.Omega.{arith}
use native.Mathlib.Nat.{add-sub_cancel}
use lib.ListN.{get_or}
use lib.Dec.{eqb, ltb}
use borrow.Author.Tests.{ne_eqb}
use Rattle.words.proofs.Parts.{get_or-part}
use Rattle.blocks.specs.Arena.{block}
use Rattle.records.specs.Records.{chars_word, kind_word, name_word, first_text, second_text, parent_word, parent_generation, attributes_span, namespaces_span, record_of, is_node, chars_of, parent_of, found_node, node_of}
use Rattle.slots.specs.Regions.{record_start, generation_at, record_at, node_at}
use Rattle.slots.proofs.Regions.{record_at-node_at}
use Rattle.records.proofs.Decoding.{Narrow, narrow}
use Rattle.records.specs.declared.NodeData.{NodeData}
use Rattle.records.specs.declared.NodeData.TheVariants as given
use Rattle.records.specs.declared.Node.{Node}
use Rattle.records.specs.declared.NodeRecord.{NodeRecord}
use Rattle.model.specs.Kinds.{Kind, root, element, attribute, text, comment, namespace, instruction, Which, children, attributes, namespaces, is_element}
use Rattle.model.specs.Doc.{Doc, is_none, live_slot, kind_in, parent_in, range_in}
use Rattle.layout.specs.declared.Document.{Document}
use Rattle.memory.specs.Decode.{kind_of, handle_of, slot_of, element_range, range_of, loaded_at, slots_part, slots_made, pool_in, names_in, lengths_add, decode}
use Rattle.memory.specs.Words.{record_word, block_at, kind_number, name_number, first_slot, second_slot}
use Rattle.memory.proofs.Columns as columns

-- ---- a node's words, by its kind

kind-number : (x : NodeData) → kind_word x ≡ kind_number (kind_of x)
kind-number given.Root = refl
kind-number (given.Element n a s) = refl
kind-number (given.Attr n v) = refl
kind-number (given.Text v) = refl
kind-number (given.Comment v) = refl
kind-number (given.Namespace p u) = refl
kind-number (given.ProcessingInstruction t c) = refl

name-number : (x : NodeData) → name_word x ≡ name_number (kind_of x)
name-number given.Root = refl
name-number (given.Element n a s) = refl
name-number (given.Attr n v) = refl
name-number (given.Text v) = refl
name-number (given.Comment v) = refl
name-number (given.Namespace p u) = refl
name-number (given.ProcessingInstruction t c) = refl

first-slot : (x : NodeData) → slot_of (first_text x) ≡ first_slot (kind_of x)
first-slot given.Root = refl
first-slot (given.Element n a s) = refl
first-slot (given.Attr n v) = refl
first-slot (given.Text v) = refl
first-slot (given.Comment v) = refl
first-slot (given.Namespace p u) = refl
first-slot (given.ProcessingInstruction t c) = refl

second-slot : (x : NodeData) → slot_of (second_text x) ≡ second_slot (kind_of x)
second-slot given.Root = refl
second-slot (given.Element n a s) = refl
second-slot (given.Attr n v) = refl
second-slot (given.Text v) = refl
second-slot (given.Comment v) = refl
second-slot (given.Namespace p u) = refl
second-slot (given.ProcessingInstruction t c) = refl

word-slot : (c : Option TextSlot) → slot_of (chars_of (chars_word c)) ≡ slot_of c
word-slot None = refl
word-slot (Some t) = rw (ne_eqb (t.0 + 1) 0 (omega arith), add-sub_cancel t.0 1)

word-handle : (p : Option NodeId) → handle_of (parent_of (parent_word p) (parent_generation p)) ≡ handle_of p
word-handle None = refl
word-handle (Some h) = rw (ne_eqb (h.index + 1) 0 (omega arith), add-sub_cancel h.index 1)

module _ (d : Document) (mem : List ℕ) where
  abbrev n : ℕ
  n = d.limits.nodes

  abbrev w : List ℕ
  w = slots_part d mem

  abbrev D : Doc
  D = decode d mem

  -- ---- where the words lie

  from_start : (i : ℕ) → get_or mem (0 + i) 0 ≡ get_or mem i 0
  from_start i =
      let e : 0 + i ≡ i = omega arith in
      ap (λ (j : ℕ). get_or mem j 0) e

  pub generation-word : (s : ℕ) → s < d.limits.nodes → get_or mem s 0 ≡ generation_at d.limits.nodes (slots_part d mem) s
  unfolding generation_at
  generation-word s h = sym (get_or-part mem 0 (15 * n) s 0 (omega arith) ∙ from_start s)

  pub record-word : (s k : ℕ) → s < d.limits.nodes → k < 12 → get_or mem (d.limits.nodes * 2 + s * 12 + k) 0 ≡ record_word d mem s k
  unfolding record_word
  record-word s k hs hk =
      sym (get_or-part w (record_start n s) 12 k 0 hk ∙ get_or-part mem 0 (15 * n) (record_start n s + k) 0 (omega arith) ∙ from_start (record_start n s + k))

  -- ---- the node of a live slot, and its words

  record Held (s : ℕ) (m : Node) : Type 0 where
    pub slot-made : s < slots_made d
    pub found : loaded_at n w s ≡ Some m
    pub words : record_at n w s ≡ record_of m
    pub node : is_node (record_at n w s) ≡ true

  node-is : (r : NodeRecord) (m : Node) → node_of r ≡ Some m → is_node r ≡ true
  unfolding node_of
  node-is r m e = go (is_node r) e
    where
      go : (t : Bool) → cond t (Some (found_node r)) None ≡ Some m → t ≡ true
      go true q = refl
      go false q =
          let z : ◌≡◌ {A = ℕ} 0 1 = cc in
          absurd (omega arith)

  by-node : (P : Type 0) (s : ℕ) → live_slot D s ≡ true → ((m : Node) → Held s m → P) → P
  unfolding node_at
  by-node P s l f = go (loaded_at n w s) refl
    where
      in-fields : (m : Node) (t : Bool) → cond t (node_at n w s) None ≡ Some m → node_at n w s ≡ Some m
      in-fields m true q = q
      in-fields m false q =
          let z : ◌≡◌ {A = ℕ} 0 1 = cc in
          absurd (omega arith)

      go : (x : Option Node) → loaded_at n w s ≡ x → P
      go (Some m) e =
          let q = in-fields m (ltb (generation_at n w s) 4294967296) e in
          f m (record {
            slot-made = columns.live_made (pool_in d mem) (names_in d mem) (lengths_add d mem) d mem s l;
            found = e;
            words = record_at-node_at n w s m q;
            node = node-is (record_at n w s) m q;
          })
      go None e = absurd (false≢true (sym (columns.live-none (pool_in d mem) (names_in d mem) (lengths_add d mem) d mem s (columns.live_made (pool_in d mem) (names_in d mem) (lengths_add d mem) d mem s l) e) ∙ l))

  module _ (s : ℕ) (l : live_slot (decode d mem) s ≡ true) where
    pub live-below : s < d.limits.nodes
    live-below = let b = columns.live_made (pool_in d mem) (names_in d mem) (lengths_add d mem) d mem s l in omega arith

    fields : Narrow (record_at n w s)
    fields = by-node _ s l (λ m h. narrow (record_at n w s) h.node)

    pub kind-word : record_word d mem s 0 ≡ kind_number (kind_in (decode d mem) s)
    unfolding record_word record_at record_of
    kind-word = by-node _ s l (λ m h.
        ap (λ (r : NodeRecord). r.kind) h.words
        ∙ kind-number m.«data»
        ∙ ap kind_number (sym (columns.kind-found (pool_in d mem) (names_in d mem) (lengths_add d mem) d mem s h.slot-made m h.found)))

    pub element-word : (w : ℕ) → w ≡ record_word d mem s 0 → eqb w 1 ≡ is_element (kind_in (decode d mem) s)
    element-word w e = ap (λ (x : ℕ). eqb x 1) (e ∙ kind-word) ∙ go (kind_in (decode d mem) s)
      where
        go : (k : Kind ℕ (Option ℕ)) → eqb (kind_number k) 1 ≡ is_element k
        go root = refl
        go (element n) = refl
        go (attribute n v) = refl
        go (text t) = refl
        go (comment t) = refl
        go (namespace p u) = refl
        go (instruction t d) = refl

    pub name-word : record_word d mem s 1 ≡ name_number (kind_in (decode d mem) s)
    unfolding record_word record_at record_of
    name-word = by-node _ s l (λ m h.
        ap (λ (r : NodeRecord). r.name) h.words
        ∙ name-number m.«data»
        ∙ ap name_number (sym (columns.kind-found (pool_in d mem) (names_in d mem) (lengths_add d mem) d mem s h.slot-made m h.found)))

    pub first-narrow : record_word d mem s 2 ≤ 4294967296
    unfolding record_word record_at
    first-narrow = fields.first

    pub first_word : slot_of (chars_of (record_word d mem s 2)) ≡ first_slot (kind_in (decode d mem) s)
    unfolding record_word record_at record_of
    first_word = by-node _ s l (λ m h.
        ap (λ (r : NodeRecord). slot_of (chars_of r.first)) h.words
        ∙ word-slot (first_text m.«data»)
        ∙ first-slot m.«data»
        ∙ ap first_slot (sym (columns.kind-found (pool_in d mem) (names_in d mem) (lengths_add d mem) d mem s h.slot-made m h.found)))

    pub second-narrow : record_word d mem s 3 ≤ 4294967296
    unfolding record_word record_at
    second-narrow = fields.second

    pub second_word : slot_of (chars_of (record_word d mem s 3)) ≡ second_slot (kind_in (decode d mem) s)
    unfolding record_word record_at record_of
    second_word = by-node _ s l (λ m h.
        ap (λ (r : NodeRecord). slot_of (chars_of r.second)) h.words
        ∙ word-slot (second_text m.«data»)
        ∙ second-slot m.«data»
        ∙ ap second_slot (sym (columns.kind-found (pool_in d mem) (names_in d mem) (lengths_add d mem) d mem s h.slot-made m h.found)))

    pub parent-narrow : (record_word d mem s 4 ≤ 4294967296) × (record_word d mem s 5 < 4294967296)
    unfolding record_word record_at
    parent-narrow = fields.parent

    pub parent-word : handle_of (parent_of (record_word d mem s 4) (record_word d mem s 5)) ≡ parent_in (decode d mem) s
    unfolding record_word record_at record_of
    parent-word = by-node _ s l (λ m h.
        ap (λ (r : NodeRecord). handle_of (parent_of r.parent r.generation)) h.words
        ∙ word-handle m.parent
        ∙ sym (columns.parent-found (pool_in d mem) (names_in d mem) (lengths_add d mem) d mem s h.slot-made m h.found))

    pub parent-absent : (w : ℕ) → w ≡ record_word d mem s 4 → eqb w 0 ≡ is_none (parent_in (decode d mem) s)
    parent-absent w e = ap (λ (x : ℕ). eqb x 0) e ∙ go (eqb (record_word d mem s 4) 0) ∙ ap is_none parent-word
      where
        go : (t : Bool) → t ≡ is_none (handle_of (cond t None (Some (record { index = record_word d mem s 4 - 1; generation = record_word d mem s 5 }))))
        go true = refl
        go false = refl

    pub block-narrow : (a : Which) → (record_word d mem s (block_at a) < 4294967296) × (record_word d mem s (block_at a + 1) < 4294967296)
    unfolding record_word record_at
    block-narrow children = fields.children
    block-narrow attributes = fields.attributes
    block-narrow namespaces = fields.namespaces

    block-of-record : (a : Which) (m : Node) → record_at n w s ≡ record_of m → block (record_word d mem s (block_at a)) (record_word d mem s (block_at a + 1)) ≡ range_of a m
    unfolding record_word record_at record_of
    block-of-record children m e = ap (λ (r : NodeRecord). block r.children.start r.children.len) e
    block-of-record attributes m e = ap (λ (r : NodeRecord). block r.attributes.start r.attributes.len) e ∙ go m.«data»
      where
        go : (x : NodeData) → block (attributes_span x).start (attributes_span x).len ≡ element_range attributes x
        go given.Root = refl
        go (given.Element n a s) = refl
        go (given.Attr n v) = refl
        go (given.Text v) = refl
        go (given.Comment v) = refl
        go (given.Namespace p u) = refl
        go (given.ProcessingInstruction t c) = refl
    block-of-record namespaces m e = ap (λ (r : NodeRecord). block r.namespaces.start r.namespaces.len) e ∙ go m.«data»
      where
        go : (x : NodeData) → block (namespaces_span x).start (namespaces_span x).len ≡ element_range namespaces x
        go given.Root = refl
        go (given.Element n a s) = refl
        go (given.Attr n v) = refl
        go (given.Text v) = refl
        go (given.Comment v) = refl
        go (given.Namespace p u) = refl
        go (given.ProcessingInstruction t c) = refl

    pub block-word : (a : Which) → block (record_word d mem s (block_at a)) (record_word d mem s (block_at a + 1)) ≡ range_in (decode d mem) a s
    block-word a = by-node _ s l (λ m h.
        block-of-record a m h.words ∙ sym (columns.range-found (pool_in d mem) (names_in d mem) (lengths_add d mem) d mem s h.slot-made m h.found a))

    -- what the function reads
    pub record BlockRead (a : Which) (start len : ℕ) : Type 0 where
      pub narrow_start : start < 4294967296
      pub narrow-len : len < 4294967296
      pub is_block : block start len ≡ range_in (decode d mem) a s

    pub block_read : (a : Which) (at : ℕ) → at ≡ block_at a → (start len : ℕ) → start ≡ record_word d mem s at → len ≡ record_word d mem s (at + 1) → BlockRead a start len
    block_read a at e start len p q =
        let x : start ≡ record_word d mem s (block_at a) = p ∙ ap (record_word d mem s) e in
        let y : len ≡ record_word d mem s (block_at a + 1) = q ∙ ap (λ (i : ℕ). record_word d mem s (i + 1)) e in
        let h = block-narrow a in
        record { narrow_start = omega arith; narrow-len = omega arith; is_block = rw (x, y) (block-word a) }

pub block-at-below : (a : Which) → block_at a + 1 < 12
block-at-below children = omega arith
block-at-below attributes = omega arith
block-at-below namespaces = omega arith
