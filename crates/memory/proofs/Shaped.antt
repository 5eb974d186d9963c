-- Every memory that test 4 lets through is a document of the right shape, and only the words of the layout are read.
-- Assumes nothing.
use Rattle.std.specs.Prelude.{Option, None, Some}
use mathlib.Core.Path.{◌≡◌, refl, sym, ◌∙◌}
use mathlib.Core.Bool.{Bool, true, false, cond}
use mathlib.Core.List.{List}
use Prim.Native.Nat.{ℕ, ◌+◌, ◌*◌, ◌≤◌, ◌<◌}
use native.Mathlib.Omega.{arith}
use native.Mathlib.Decide.{dec_lt}
use lib.ListN.{length, get_or, take, length-drop, get_or-eq_default}
use lib.Seq.{length-take-le}
use lib.Dec.{ltb}
use Rattle.words.specs.Parts.{part}
use Rattle.words.specs.Lists.{tabulate}
use Rattle.words.proofs.Parts.{length_part, part-part}
use Rattle.words.proofs.Lists.{length-tabulate}
use Rattle.blocks.specs.Arena.{block}
use Rattle.records.specs.Fields.{NodeFits}
use Rattle.slots.specs.Regions.{generation_at, node_at, order_at}
use Rattle.records.specs.declared.Range.{Range}
use Rattle.records.specs.declared.NodeData.{NodeData}
use Rattle.records.specs.declared.NodeData.TheVariants as given
use Rattle.records.specs.declared.Node.{Node}
use Rattle.slots.proofs.Regions.{node_at-fits}
use Rattle.texts.specs.Pool.{Pool}
use Rattle.names.specs.Table.{Name}
use Rattle.model.specs.Kinds.{Kind, Which, children, attributes, namespaces}
use Rattle.model.specs.Doc.{range_in}
use Rattle.model.specs.Rules.{Shape, has_range}
use Rattle.layout.specs.declared.Document.{Document}
use Rattle.layout.specs.Layout.{limits_of, entries_of, arena_at, document_words, memory_ok}
use Rattle.memory.specs.Decode.{kind_of, block_of, element_range, range_of, kind_loaded, parent_loaded, range_loaded, loaded_at, slots_part, arena_part, slots_made, arena_in, document_of, decode_with}
use Rattle.layout.proofs.Sizes.{sizes, arena-inside, arena-behind-slots, words-next, names-next}
use Rattle.memory.proofs.Columns.{kind-column, range-in}

-- ---- the parts have their lengths

module _ (d : Document) (mem : List ℕ) (ok : memory_ok d (length mem) ≡ true) where
  pub length-slots_part : length (slots_part d mem) ≡ 15 * d.limits.nodes
  length-slots_part =
      let z = sizes d (length mem) ok in
      length_part mem 0 (15 * d.limits.nodes) (omega arith)

  pub length-arena_part : (w : Which) → length (arena_part d w mem) ≡ entries_of d.limits w + entries_of d.limits w
  length-arena_part w =
      let z = sizes d (length mem) ok in
      length_part mem (arena_at (limits_of d.limits) w) (2 * entries_of d.limits w) (omega (arith, z.arena w)) ∙ omega arith

  pub length_ids : (w : Which) → length (arena_in d w mem).ids ≡ entries_of d.limits w
  length_ids w = length-take-le (entries_of d.limits w) (arena_part d w mem) (omega (arith, length-arena_part w))

  pub length-caps : (w : Which) → length (arena_in d w mem).caps ≡ entries_of d.limits w
  length-caps w = length-drop (entries_of d.limits w) (arena_part d w mem) ∙ omega (arith, length-arena_part w)

-- ---- a range that the kind has no use for is (0, 0)

loaded-node : (n : ℕ) (w : List ℕ) (s : ℕ) (m : Node) → loaded_at n w s ≡ Some m → node_at n w s ≡ Some m
loaded-node n w s m e = go (ltb (generation_at n w s) 4294967296) e
  where
    go : (t : Bool) → cond t (node_at n w s) None ≡ Some m → node_at n w s ≡ Some m
    go true q = q
    go false q =
        let z : ◌≡◌ {A = ℕ} 0 1 = cc in
        absurd (omega arith)

-- what was loaded fits
pub loaded-fits : (n : ℕ) (w : List ℕ) (s : ℕ) (m : Node) → loaded_at n w s ≡ Some m → NodeFits m
loaded-fits n w s m e = node_at-fits n w s m (loaded-node n w s m e)

no-block : (r : Range) → (r.start ≡ 0) × (r.len ≡ 0) → block_of r ≡ block 0 0
no-block r e = rw (e.0, e.1)

node-unused : (w : Which) (m : Node) → NodeFits m → has_range w (kind_of m.«data») ≡ false → range_of w m ≡ block 0 0
node-unused w m f e = go w m.«data» refl e
  where
    no-use : (x : NodeData) → m.«data» ≡ x → NodeFits m → has_range children (kind_of x) ≡ false → block_of m.children ≡ block 0 0
    no-use given.Root q g e = let z : ◌≡◌ {A = ℕ} 0 1 = cc in absurd (omega arith)
    no-use (given.Element _ _ _) q g e = let z : ◌≡◌ {A = ℕ} 0 1 = cc in absurd (omega arith)
    no-use (given.Attr _ _) q g e = no-block m.children (rw q at g.fits-children)
    no-use (given.Text _) q g e = let z : ◌≡◌ {A = ℕ} 0 1 = cc in absurd (omega arith)
    no-use (given.Comment _) q g e = let z : ◌≡◌ {A = ℕ} 0 1 = cc in absurd (omega arith)
    no-use (given.Namespace _ _) q g e = no-block m.children (rw q at g.fits-children)
    no-use (given.ProcessingInstruction _ _) q g e = let z : ◌≡◌ {A = ℕ} 0 1 = cc in absurd (omega arith)

    no-element : (v : Which) (x : NodeData) → has_range attributes (kind_of x) ≡ false → element_range v x ≡ block 0 0
    no-element v given.Root e = refl
    no-element v (given.Element _ _ _) e = let z : ◌≡◌ {A = ℕ} 0 1 = cc in absurd (omega arith)
    no-element v (given.Attr _ _) e = refl
    no-element v (given.Text _) e = refl
    no-element v (given.Comment _) e = refl
    no-element v (given.Namespace _ _) e = refl
    no-element v (given.ProcessingInstruction _ _) e = refl

    go : (v : Which) (x : NodeData) → m.«data» ≡ x → has_range v (kind_of m.«data») ≡ false → range_of v m ≡ block 0 0
    go children x q e = no-use x q f (rw q at e)
    go attributes x q e = no-element attributes m.«data» e
    go namespaces x q e = no-element namespaces m.«data» e

loaded-unused : (w : Which) (l : Option Node) → ((m : Node) → l ≡ Some m → NodeFits m) → (k : Kind ℕ (Option ℕ)) → kind_loaded l ≡ Some k → has_range w k ≡ false → range_loaded w l ≡ block 0 0
loaded-unused w None f k e h = refl
loaded-unused w (Some m) f k e h =
    let q : kind_of m.«data» ≡ k = cc in
    node-unused w m (f m refl) (rw (← q) at h)

-- ---- the shape

module _ (p : Pool) (names : List (Option Name)) (lengths : Bool) (d : Document) (mem : List ℕ) where
  abbrev n : ℕ
  n = d.limits.nodes

  abbrev w : List ℕ
  w = slots_part d mem

  range-unused : (a : Which) (i : ℕ) (k : Kind ℕ (Option ℕ)) → get_or (decode_with p names lengths d mem).kinds i None ≡ Some k → has_range a k ≡ false
      → range_in (decode_with p names lengths d mem) a i ≡ block 0 0
  range-unused a i k e h = go (dec_lt i (slots_made d))
    where
      go : Dec (i < slots_made d) → range_in (decode_with p names lengths d mem) a i ≡ block 0 0
      go (yes b) =
          range-in p names lengths d mem i b a
          ∙ loaded-unused a (loaded_at n w i) (λ m q. loaded-fits n w i m q) k (sym (kind-column p names lengths d mem i b) ∙ e) h
      go (no b) =
          get_or-eq_default (tabulate (λ s. range_loaded a (loaded_at n w s)) (slots_made d)) (block 0 0) {n = i}
          (omega (arith, length-tabulate (λ s. range_loaded a (loaded_at n w s)) (slots_made d)))

  pub shape : memory_ok d (length mem) ≡ true → Shape (decode_with p names lengths d mem)
  shape ok =
      let gens : length (tabulate (generation_at n w) (slots_made d)) ≡ slots_made d = length-tabulate (generation_at n w) (slots_made d) in
      record {
        kinds = length-tabulate (λ s. kind_loaded (loaded_at n w s)) (slots_made d) ∙ sym gens;
        parents = length-tabulate (λ s. parent_loaded (loaded_at n w s)) (slots_made d) ∙ sym gens;
        ranges = λ a. length-tabulate (λ s. range_loaded a (loaded_at n w s)) (slots_made d) ∙ sym gens;
        ids = length_ids d mem ok;
        caps = length-caps d mem ok;
        order = length-tabulate (order_at n w) n;
        unused = range-unused;
      }

-- ---- only the words of the layout are read

module _ (p : Pool) (names : List (Option Name)) (lengths : Bool) (d : Document) (mem mem' : List ℕ) where
  pub decode-same : slots_part d mem' ≡ slots_part d mem → ((a : Which) → arena_part d a mem' ≡ arena_part d a mem)
      → decode_with p names lengths d mem' ≡ decode_with p names lengths d mem
  decode-same e q = λ i. document_of p names lengths d (e i) (λ a. q a i)

pub part-take : (l : List ℕ) (s n k : ℕ) → s + n ≤ k → part s n (take k l) ≡ part s n l
unfolding part
part-take l s n k h =
    let e : 0 + s ≡ s = omega arith in
    rw e at (part-part l 0 k s n h)

pub decode-front : (p : Pool) (names : List (Option Name)) (lengths : Bool) (d : Document) (mem : List ℕ)
    → decode_with p names lengths d (take (document_words (limits_of d.limits)) mem) ≡ decode_with p names lengths d mem
decode-front p names lengths d mem =
    let l = limits_of d.limits in
    decode-same p names lengths d mem (take (document_words l) mem)
    (part-take mem 0 (15 * d.limits.nodes) (document_words l) (omega (arith, arena-behind-slots l children, arena-inside l children, names-next l, words-next l)))
    (λ a. part-take mem (arena_at l a) (2 * entries_of d.limits a) (document_words l) (omega (arith, arena-inside l a, names-next l, words-next l)))
