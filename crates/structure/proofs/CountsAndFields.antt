-- Rule 1: the tests of the counts, of the words and of the Root are the rule's.
-- Assumes nothing.
use Rattle.std.specs.Prelude.{None}
use mathlib.Core.Path.{◌≡◌, refl, sym, ap, ap₂, ◌∙◌}
use mathlib.Core.Bool.{Bool, true, false, not, ◌&&◌, and-true}
use mathlib.Core.List.{List, []}
use Prim.Native.Nat.{ℕ, ◌+◌, ◌*◌, ◌%◌, ◌≤◌, ◌<◌}
use native.Mathlib.Omega.{arith}
use lib.ListN.{length, get_or}
use lib.Seq.{get_or-drop}
use lib.Dec.{eqb}
use borrow.Author.Tests.{lt-ltb, ltb-true, le-leb, eq-eqb, ne_eqb, eqb-true}
use Rattle.words.specs.Lists.{all_below}
use Rattle.words.specs.Parts.{part}
use Rattle.words.proofs.Parts.{length_part, get_or-part}
use Rattle.words.proofs.Lists.{get_or-tabulate, all_below-same}
use Rattle.words.proofs.Tests.{and_left, and_right}
use Rattle.records.specs.Records.{is_node}
use Rattle.slots.specs.Regions.{generation_at, record_at, node_at}
use Rattle.slots.specs.WordsRule.{words_rule}
use Rattle.slots.proofs.WordsRule.{words-rule-of, of-words-rule}
use Rattle.model.specs.Kinds.{Which, children, attributes, namespaces, is_root}
use Rattle.model.specs.Doc as model
use Rattle.model.specs.Doc.{Doc, live_slot, kind_in, parent_in, even, is_some, is_none}
use Rattle.model.specs.RulesTest as test
use Rattle.model.specs.RulesTest.{implies, fits_field, all_slots, all_live, all_which, words_within, one_root, counts_and_fields_hold}
use Rattle.laws.proofs.Basics.{live-node}
use Rattle.laws.proofs.Quantifiers.{slots-at, at_slots, implies_true, true_implies}
use Rattle.layout.specs.declared.Document.{Document}
use Rattle.layout.specs.Layout.{limits_of, entries_of, arena_at, memory_ok}
use Rattle.layout.proofs.Sizes.{sizes}
use Rattle.memory.specs.Decode.{counts_within, slots_part, slots_made, arena_part, arena_used, arena_in}
use Rattle.memory.proofs.Living.{node-some}
use Rattle.memory.proofs.Counted.{counts-fit}
use Rattle.memory.proofs.Columns.{length-gens, generation-in, kind-column, order-in, generation-past}
use Rattle.entries.specs.Nodes.{no_texts, decode_nodes, words_hold, kind_number}
use Rattle.entries.proofs.Words.{generation-word, live-word}
use Rattle.structure.specs.Tests.{capacities_fit, arenas_fit, root_stands, root_test, only_root, fields_fit}
use Rattle.structure.proofs.KindNumbers.{root-kind}
use Rattle.structure.proofs.Lists.{both_ways, ended, decided}

-- ---- the counts

pub texts-below : (d : Document) → counts_within (limits_of d.limits) d.counts ≡ true → d.counts.texts ≤ d.limits.texts
texts-below d h = (counts-fit (limits_of d.limits) d.counts h).texts

-- ---- the capacities of an arena

-- the word at an index
abbrev pub fits_in : List ℕ → ℕ → Bool
fits_in words i = fits_field (get_or words i 0)

module _ (d : Document) (w : Which) (mem : List ℕ) (start limit used : ℕ)
    (s : start ≡ arena_at (limits_of d.limits) w) (l : limit ≡ (limits_of d.limits).entries w) (u : used ≡ arena_used d w) where
  -- a word is the capacity that the document has there
  capacity-word : (i : ℕ) → i < used → get_or (part (start + limit) used mem) i 0 ≡ get_or (arena_in d w mem).caps i 0
  capacity-word i h =
      let e : start + limit + i ≡ arena_at (limits_of d.limits) w + (entries_of d.limits w + i) = omega arith in
      get_or-part mem (start + limit) used i 0 h
      ∙ ap (λ (j : ℕ). get_or mem j 0) e
      ∙ sym (get_or-part mem (arena_at (limits_of d.limits) w) (2 * entries_of d.limits w) (entries_of d.limits w + i) 0 (omega arith))
      ∙ sym (get_or-drop (entries_of d.limits w) (arena_part d w mem) i 0)

  -- they lie in the memory
  pub record Within : Type 0 where
    pub inside : start + limit + used ≤ length mem
    pub narrow : start + limit + used < 4294967296
    pub short : used ≤ 262144

  pub capacities-within : memory_ok d (length mem) ≡ true → Within
  capacities-within ok =
      let z = sizes d (length mem) ok in
      record {
        inside = omega (arith, z.arena w);
        narrow = omega (arith, z.narrow w);
        short = omega (arith, z.entries w);
      }

  capacities-all : all_below (fits_in (part (start + limit) used mem)) used ≡ capacities_fit (decode_nodes d mem) w
  unfolding capacities_fit
  capacities-all =
      all_below-same (fits_in (part (start + limit) used mem)) (λ i. fits_field (get_or (arena_in d w mem).caps i 0)) used
      (λ i h. ap fits_field (capacity-word i h))
      ∙ ap (all_below (λ i. fits_field (get_or (arena_in d w mem).caps i 0))) u

  -- as they were read, to the last
  pub capacities-read : memory_ok d (length mem) ≡ true → (words : List ℕ) → words ≡ part (start + limit) used mem → (i upper : ℕ) → i ≤ length words → length words ≤ i
      → eqb upper 0 ≡ all_below (fits_in words) i → eqb upper 0 ≡ capacities_fit (decode_nodes d mem) w
  capacities-read ok words e i upper a b h =
      let size : length words ≡ used = ap length e ∙ length_part mem (start + limit) used (capacities-within ok).inside in
      let q : i ≡ used = omega arith in
      h ∙ ap (λ (x : List ℕ). all_below (fits_in x) i) e ∙ ap (all_below (fits_in (part (start + limit) used mem))) q ∙ capacities-all

pub arenas-fit : (d : Document) (mem : List ℕ) (a b c : Bool) → a ≡ capacities_fit (decode_nodes d mem) children → b ≡ capacities_fit (decode_nodes d mem) attributes
    → c ≡ capacities_fit (decode_nodes d mem) namespaces → (a && b && c) ≡ arenas_fit (decode_nodes d mem)
unfolding arenas_fit all_which
arenas-fit d mem a b c ea eb ec = rw (ea, eb, ec)

-- ---- the Root

module _ (D : Doc) (kind : ℕ) (k : kind ≡ kind_number (kind_in D 0)) where
  root-known : eqb kind 0 ≡ is_root (kind_in D 0)
  root-known = ap (λ (x : ℕ). eqb x 0) k ∙ root-kind (kind_in D 0)

  pub top-other : (kind ≡ 0 → ⊥) → false ≡ (is_root (kind_in D 0) && is_none (parent_in D 0))
  top-other n = ap (λ (t : Bool). t && is_none (parent_in D 0)) (sym (ne_eqb kind 0 n) ∙ root-known)

  pub top-root : kind ≡ 0 → (r : Bool) → r ≡ is_none (parent_in D 0) → r ≡ (is_root (kind_in D 0) && is_none (parent_in D 0))
  top-root z r e = e ∙ ap (λ (t : Bool). t && is_none (parent_in D 0)) (sym (eq-eqb kind 0 z) ∙ root-known)

module _ (d : Document) (mem : List ℕ) where
  abbrev doc : Doc
  doc = decode_nodes d mem

  pub root_none : (made : ℕ) → made ≡ slots_made d → made ≡ 0 → false ≡ root_stands (decode_nodes d mem)
  unfolding root_stands
  root_none made e z = sym (rw (generation-past no_texts [] true d mem 0 (omega arith)))

  module _ (made : ℕ) (e : made ≡ slots_made d) (some-made : made ≡ 0 → ⊥) (g : ℕ) (q : g ≡ generation_at d.limits.nodes (slots_part d mem) 0) where
    first : 0 < slots_made d
    first = omega arith

    pub root-old : (g ≡ 0 → ⊥) → false ≡ root_stands (decode_nodes d mem)
    unfolding root_stands
    root-old n = sym (rw (generation-in no_texts [] true d mem 0 first, ← q, ne_eqb g 0 n))

    module _ (z : g ≡ 0) (words : words_hold d mem ≡ true) where
      pub first_live : live_slot (decode_nodes d mem) 0 ≡ true
      first_live = sym (live-word d mem 0 0 words first (sym (generation-word d mem 0 (omega arith) ∙ sym q ∙ z)))

      pub root-top : (r : Bool) → r ≡ (is_root (kind_in (decode_nodes d mem) 0) && is_none (parent_in (decode_nodes d mem) 0)) → r ≡ root_stands (decode_nodes d mem)
      unfolding root_stands
      root-top r k =
          let v : model.generation_at doc 0 ≡ 0 = generation-in no_texts [] true d mem 0 first ∙ sym q ∙ z in
          k ∙ sym (rw (v, live-node doc 0 first_live))

  -- ---- the only Root

  root-anywhere : (a b : Bool) → implies a (implies b true) ≡ true
  root-anywhere true true = refl
  root-anywhere true false = refl
  root-anywhere false b = refl

  root-nowhere : (b : Bool) → implies b false ≡ not b
  root-nowhere true = refl
  root-nowhere false = refl

  module _ (i : ℕ) where
    pub root-first : i ≡ 0 → true ≡ root_test (decode_nodes d mem) i
    unfolding root_test
    root-first e = sym (rw (eq-eqb i 0 e) (root-anywhere (live_slot doc i) (is_root (kind_in doc i))))

    pub no-other-root : (i ≡ 0 → ⊥) → live_slot (decode_nodes d mem) i ≡ true → (kind : ℕ) → kind ≡ kind_number (kind_in (decode_nodes d mem) i) → not (eqb kind 0) ≡ root_test (decode_nodes d mem) i
    unfolding root_test
    no-other-root n l kind k =
        ap not (ap (λ (x : ℕ). eqb x 0) k ∙ root-kind (kind_in doc i))
        ∙ sym (rw (l, ne_eqb i 0 n) (root-nowhere (is_root (kind_in doc i))))

  pub all-roots : all_below (root_test (decode_nodes d mem)) (slots_made d) ≡ only_root (decode_nodes d mem)
  unfolding root_test only_root all_live
  all-roots = ap (all_below (root_test doc)) (sym (length-gens no_texts [] true d mem))

-- ---- the words of the slots

generation-column : (d : Document) (mem : List ℕ) (i : ℕ) → i < slots_made d → get_or (decode_nodes d mem).gens i 0 ≡ generation_at d.limits.nodes (slots_part d mem) i
generation-column d mem i h = get_or-tabulate (generation_at d.limits.nodes (slots_part d mem)) (slots_made d) i 0 h

module _ (d : Document) (mem : List ℕ) where
  abbrev n : ℕ
  n = d.limits.nodes

  abbrev words : List ℕ
  words = slots_part d mem

  abbrev nodes : Doc
  nodes = decode_nodes d mem

  -- a slot whose generation fits holds a node exactly where its record is one
  kind-there : (i : ℕ) → i < slots_made d → generation_at n words i < 4294967296 → is_some (get_or nodes.kinds i None) ≡ is_node (record_at n words i)
  unfolding node_at
  kind-there i h g =
      ap is_some (kind-column no_texts [] true d mem i h)
      ∙ rw (lt-ltb (generation_at n words i) 4294967296 g) (node-some (record_at n words i))

  abbrev slots_hold : Bool
  slots_hold =
      all_slots nodes (λ i. fits_field (get_or nodes.gens i 0))
      && all_slots nodes (λ i. implies (even (model.generation_at nodes i)) (is_some (get_or nodes.kinds i None)))
      && all_slots nodes (λ i. fits_field (get_or nodes.order i 0))

  below-made : (i : ℕ) → i < length nodes.gens → i < slots_made d
  below-made i b = rw (length-gens no_texts [] true d mem) at b

  made-below : (i : ℕ) → i < slots_made d → i < length nodes.gens
  made-below i b = rw (length-gens no_texts [] true d mem) b

  words-hold : words_rule n words (slots_made d) ≡ true → slots_hold ≡ true
  words-hold e =
      let r = words-rule-of n words (slots_made d) e in
      rw (
        at_slots nodes (λ i. fits_field (get_or nodes.gens i 0)) (λ i b.
            lt-ltb (get_or nodes.gens i 0) 4294967296 (rw (generation-column d mem i (below-made i b)) (r.generation i (below-made i b)))),
        at_slots nodes (λ i. implies (even (model.generation_at nodes i)) (is_some (get_or nodes.kinds i None))) (λ i b.
            true_implies (even (model.generation_at nodes i)) (is_some (get_or nodes.kinds i None)) (λ v.
            kind-there i (below-made i b) (r.generation i (below-made i b))
            ∙ r.node i (below-made i b)
            (eqb-true (generation_at n words i % 2) 0 (rw (generation-in no_texts [] true d mem i (below-made i b)) at v)))),
        at_slots nodes (λ i. fits_field (get_or nodes.order i 0)) (λ i b.
            let h = below-made i b in
            lt-ltb (get_or nodes.order i 0) 4294967296 (rw (order-in no_texts [] true d mem i (omega arith)) (r.order i h))),
      )

  hold-words : slots_hold ≡ true → words_rule n words (slots_made d) ≡ true
  hold-words e = of-words-rule n words (slots_made d) (record {
    generation = narrow;
    order = λ i h.
        rw (order-in no_texts [] true d mem i (omega arith)) at (ltb-true (get_or nodes.order i 0) 4294967296
        (slots-at nodes (λ i. fits_field (get_or nodes.order i 0)) (search (and_left, and_right)) i (made-below i h)));
    node = λ i h v.
        sym (kind-there i h (narrow i h))
        ∙ implies_true (even (model.generation_at nodes i)) (is_some (get_or nodes.kinds i None))
        (slots-at nodes (λ i. implies (even (model.generation_at nodes i)) (is_some (get_or nodes.kinds i None))) (search (and_left, and_right)) i (made-below i h))
        (rw (generation-in no_texts [] true d mem i h) (eq-eqb (generation_at n words i % 2) 0 v));
  })
    where
      narrow : (i : ℕ) → i < slots_made d → generation_at n words i < 4294967296
      narrow i h =
          rw (generation-column d mem i h) at (ltb-true (get_or nodes.gens i 0) 4294967296
          (slots-at nodes (λ i. fits_field (get_or nodes.gens i 0)) (search (and_left, and_right)) i (made-below i h)))

  -- ---- the rule

  counts_same : counts_within (limits_of d.limits) d.counts ≡ test.counts_within nodes
  unfolding test.counts_within
  counts_same =
      sym (rw (
        le-leb (length nodes.gens) n (omega (arith, length-gens no_texts [] true d mem)),
        le-leb 0 d.limits.texts (omega arith),
        le-leb 0 d.limits.textbytes (omega arith),
        le-leb 0 d.limits.names (omega arith),
        le-leb 0 d.limits.namebytes (omega arith),
      )
      (and-true _ ∙ and-true _ ∙ and-true _ ∙ and-true _ ∙ and-true _))

  words_same : (words_rule n words (slots_made d) && arenas_fit nodes) ≡ words_within nodes
  unfolding words_within arenas_fit capacities_fit
  words_same = ap (λ (t : Bool). t && arenas_fit nodes) (both_ways (words_rule n words (slots_made d)) slots_hold words-hold hold-words)

  root-same : (root_stands nodes && only_root nodes) ≡ one_root nodes
  unfolding root_stands only_root one_root
  root-same = refl

  abbrev holds : Bool
  holds = words_rule n words (slots_made d)

  fields-are : (counts_within (limits_of d.limits) d.counts && (holds && arenas_fit nodes) && (root_stands nodes && only_root nodes)) ≡ counts_and_fields_hold nodes
  unfolding counts_and_fields_hold
  fields-are = ap₂ ◌&&◌ (ap₂ ◌&&◌ counts_same words_same) root-same

  module _ (counts slots : Bool) (ec : counts ≡ counts_within (limits_of d.limits) d.counts) (es : slots ≡ words_hold d mem) where
    first-tests : (counts && slots) ≡ (counts_within (limits_of d.limits) d.counts && holds)
    first-tests = ap₂ ◌&&◌ ec es

    pub fields-broken : (counts && slots) ≡ false → false ≡ fields_fit d mem
    unfolding fields_fit
    fields-broken q = ended (counts_within (limits_of d.limits) d.counts && holds) (arenas_fit nodes && root_stands nodes) (counts && slots) true first-tests q

    module _ (q : (counts && slots) ≡ true) where
      pub fields-tested : (arenas stands : Bool) → arenas ≡ arenas_fit (decode_nodes d mem) → stands ≡ root_stands (decode_nodes d mem) → (arenas && stands) ≡ fields_fit d mem
      unfolding fields_fit
      fields-tested arenas stands ea er =
          decided (counts_within (limits_of d.limits) d.counts && holds) (arenas_fit nodes && root_stands nodes) (counts && slots) (arenas && stands) first-tests q (ap₂ ◌&&◌ ea er)

  pub fields-decide : (fields_fit d mem && only_root (decode_nodes d mem)) ≡ counts_and_fields_hold (decode_nodes d mem)
  unfolding fields_fit
  fields-decide = regrouped (counts_within (limits_of d.limits) d.counts) holds (arenas_fit nodes) (root_stands nodes) (only_root nodes) ∙ fields-are
    where
      regrouped : (p q r s t : Bool) → ((p && q && (r && s)) && t) ≡ (p && (q && r) && (s && t))
      regrouped true true true s t = refl
      regrouped true true false s t = refl
      regrouped true false r s t = refl
      regrouped false q r s t = refl

  -- what the other rules' checks build on
  pub counts-tested : fields_fit d mem ≡ true → counts_within (limits_of d.limits) d.counts ≡ true
  unfolding fields_fit
  counts-tested h = search (and_left, and_right)

  pub words-fit : fields_fit d mem ≡ true → words_hold d mem ≡ true
  unfolding fields_fit
  words-fit h = search (and_left, and_right)

  pub words-there : counts_and_fields_hold (decode_nodes d mem) ≡ true → words_hold d mem ≡ true
  words-there h = words-fit (and_left (fields_fit d mem) (only_root nodes) (fields-decide ∙ h))
