-- Copies made one after another, and the lists of one node.
-- Assumes nothing.
use mathlib.Core.Path.{◌≡◌, refl, sym, ap, ◌∙◌, subst}
use mathlib.Core.Bool.{Bool, true, false, cond}
use mathlib.Core.List.{List}
use Prim.Native.Nat.{ℕ}
use native.Mathlib.Omega.{arith}
use lib.ListN.{get_or}
use Rattle.words.specs.Parts.{part}
use Rattle.blocks.specs.Arena.{Arena, Block, block}
use Rattle.blocks.specs.Compact.{copied}
use Rattle.records.specs.Handles.{handle_index}
use Rattle.model.specs.Kinds.{Which, children, attributes, namespaces, same_which, is_element}
use Rattle.model.specs.Doc.{Doc, live_slot, kind_in, kind_at, range_in, list_in, has_list}
use Rattle.model.specs.Rules.{has_range}
use Rattle.model.specs.Edits.{Laying, lay_list}
use Rattle.layout.specs.declared.Document.{Document}
use Rattle.layout.specs.Layout.{memory_ok}
use Rattle.memory.specs.Decode.{arena_in, decode}
use Rattle.compaction.specs.declared.copy.Lengths.{Lengths}
use Rattle.compaction.specs.Copies.{length_of, with_blocks, copies_in, Copies, Layable, NodeLayable, list_laid, node_laid}

module _ (d : Document) (o mem : List ℕ) (used : Lengths) (a : Which → Laying) (C : Copies d o mem used a) where
  -- copies after copies
  pub copies-more : (mem' : List ℕ) (used' : Lengths) (b : Which → Laying) → Copies d mem mem' used' b → Copies d o mem' used' b
  copies-more mem' used' b C' = record {
    size = C'.size ∙ C.size;
    past = C'.past ∙ C.past;
    document = C'.document ∙ ap (λ (x : Doc). with_blocks x (λ w. (b w).ranges) (λ w. arena_in d w mem')) C.document;
    ids = λ w. C'.ids w ∙ C.ids w;
    copies = C'.copies;
  }

  pub copies-same : (b : Which → Laying) → ((w : Which) → a w ≡ b w) → Copies d o mem used b
  copies-same b e = record {
    size = C.size;
    past = C.past;
    document = C.document ∙ (λ i. with_blocks (decode d o) (λ w. (e w i).ranges) (λ w. arena_in d w mem));
    ids = C.ids;
    copies = λ w. C.copies w ∙ ap (λ (l : Laying). l.arena) (e w);
  }

  pub copies-are : (w : Which) → copies_in d mem used w ≡ a w
  copies-are w = λ i. record { arena = C.copies w i; ranges = ap (λ (x : Doc). x.ranges w) C.document i }

  pub length-is : (w : Which) → length_of used w ≡ (a w).arena.used
  unfolding copied
  length-is w = ap (λ (x : Arena). x.used) (C.copies w)

  pub live-kept : (s : ℕ) → live_slot (decode d mem) s ≡ live_slot (decode d o) s
  live-kept s = ap (λ (x : Doc). live_slot x s) C.document

  pub kind-kept : (s : ℕ) → kind_in (decode d mem) s ≡ kind_in (decode d o) s
  kind-kept s = ap (λ (x : Doc). kind_in x s) C.document

  module _ (w : Which) (s : ℕ) (fresh : get_or (a w).ranges s (block 0 0) ≡ range_in (decode d o) w s) where
    pub range-kept : range_in (decode d mem) w s ≡ range_in (decode d o) w s
    range-kept = ap (λ (x : Doc). range_in x w s) C.document ∙ fresh

    pub list-kept : list_in (decode d mem) w s ≡ list_in (decode d o) w s
    list-kept =
        ap (λ (b : Block). part b.start b.len (arena_in d w mem).ids) range-kept
        ∙ ap (part (range_in (decode d o) w s).start (range_in (decode d o) w s).len) (C.ids w)

    pub layable-kept : (u : ℕ) → u ≡ (a w).arena.used → Layable d o w s u → Layable d mem w s (length_of used w)
    layable-kept u e L =
        let start : (range_in (decode d mem) w s).start ≡ (range_in (decode d o) w s).start = ap (λ (b : Block). b.start) range-kept in
        let len : (range_in (decode d mem) w s).len ≡ (range_in (decode d o) w s).len = ap (λ (b : Block). b.len) range-kept in
        record {
          memory = ap (memory_ok d) C.size ∙ L.memory;
          live = live-kept s ∙ L.live;
          owner = ap (has_range w) (kind-kept s) ∙ L.owner;
          inside = omega (arith, start, len, L.inside);
          room = omega (arith, len, L.room, length-is w);
        }

    -- one list more
    pub list-next : (mem' : List ℕ) (used' : Lengths) → Copies d mem mem' used' (list_laid (decode d mem) (copies_in d mem used) w s) → Copies d o mem' used' (list_laid (decode d o) a w s)
    list-next mem' used' C' = record {
      size = M.size;
      past = M.past;
      document = M.document ∙ (λ i. with_blocks (decode d o) (λ v. (same v i).ranges) (λ v. arena_in d v mem'));
      ids = M.ids;
      copies = λ v. M.copies v ∙ ap (λ (l : Laying). l.arena) (same v);
    }
      where
        M : Copies d o mem' used' (list_laid (decode d mem) (copies_in d mem used) w s)
        M = copies-more mem' used' (list_laid (decode d mem) (copies_in d mem used) w s) C'

        same : (v : Which) → list_laid (decode d mem) (copies_in d mem used) w s v ≡ list_laid (decode d o) a w s v
        same v = go (same_which v w)
          where
            go : (t : Bool) → cond t (lay_list (copies_in d mem used w) s (list_in (decode d mem) w s)) (copies_in d mem used v) ≡ cond t (lay_list (a w) s (list_in (decode d o) w s)) (a v)
            go true = ap (λ (l : Laying). lay_list l s (list_in (decode d mem) w s)) (copies-are w) ∙ ap (lay_list (a w) s) list-kept
            go false = copies-are v

-- ---- the lists of a node

module _ (D : Doc) (A : Which → Laying) (h : ℕ) where
  laid-element : is_element (kind_at D h) ≡ true → (w : Which)
      → list_laid D (list_laid D (list_laid D A children (handle_index h)) attributes (handle_index h)) namespaces (handle_index h) w ≡ node_laid D A h w
  laid-element e children = refl
  laid-element e attributes = rw e
  laid-element e namespaces = rw e

  laid-other : is_element (kind_at D h) ≡ false → (w : Which) → list_laid D A children (handle_index h) w ≡ node_laid D A h w
  laid-other e children = refl
  laid-other e attributes = rw e
  laid-other e namespaces = rw e

module _ (d : Document) (mem : List ℕ) (h : ℕ) (used : Lengths) (N : NodeLayable d mem h used) (s : ℕ) (e : s ≡ handle_index h) where
  abbrev D : Doc
  D = decode d mem

  abbrev A : Which → Laying
  A = copies_in d mem used

  pub children-layable : Layable d mem children s used.children
  children-layable = subst (λ (k : ℕ). Layable d mem children k used.children) (sym e) (N children refl)

  module _ (m₁ : List ℕ) (u₁ : Lengths) (C₁ : Copies d mem m₁ u₁ (list_laid (decode d mem) (copies_in d mem used) children s)) where
    module _ (t : Bool) (q : t ≡ is_element (kind_in (decode d m₁) s)) where
      kind-is : t ≡ is_element (kind_at (decode d mem) h)
      kind-is = q ∙ ap is_element (kind-kept d mem m₁ u₁ (list_laid D A children s) C₁ s) ∙ ap (λ (k : ℕ). is_element (kind_in D k)) e

      pub other-laid : t ≡ false → Copies d mem m₁ u₁ (node_laid (decode d mem) (copies_in d mem used) h)
      other-laid f =
          copies-same d mem m₁ u₁ (list_laid D A children (handle_index h)) (subst (λ (k : ℕ). Copies d mem m₁ u₁ (list_laid D A children k)) e C₁)
          (node_laid D A h) (laid-other D A h (sym kind-is ∙ f))

      module _ (f : t ≡ true) where
        has : (w : Which) → has_list w (is_element (kind_at D h)) ≡ true
        has w = go w (sym kind-is ∙ f)
          where
            go : (w : Which) {x : Bool} → x ≡ true → has_list w x ≡ true
            go children q = refl
            go attributes q = q
            go namespaces q = q

        layable : (w : Which) → Layable d mem w s (length_of used w)
        layable w = subst (λ (k : ℕ). Layable d mem w k (length_of used w)) (sym e) (N w (has w))

        pub attributes-layable : Layable d m₁ attributes s u₁.attributes
        unfolding copied
        attributes-layable = layable-kept d mem m₁ u₁ (list_laid D A children s) C₁ attributes s refl used.attributes refl (layable attributes)

        module _ (m₂ : List ℕ) (u₂ : Lengths) (C₂ : Copies d m₁ m₂ u₂ (list_laid (decode d m₁) (copies_in d m₁ u₁) attributes s)) where
          abbrev B : Which → Laying
          B = list_laid (decode d mem) (list_laid (decode d mem) (copies_in d mem used) children s) attributes s

          C₁₂ : Copies d mem m₂ u₂ B
          C₁₂ = list-next d mem m₁ u₁ (list_laid D A children s) C₁ attributes s refl m₂ u₂ C₂

          pub namespaces-layable : Layable d m₂ namespaces s u₂.namespaces
          unfolding copied
          namespaces-layable = layable-kept d mem m₂ u₂ B C₁₂ namespaces s refl used.namespaces refl (layable namespaces)

          pub element-laid : (m₃ : List ℕ) (u₃ : Lengths) → Copies d m₂ m₃ u₃ (list_laid (decode d m₂) (copies_in d m₂ u₂) namespaces s)
              → Copies d mem m₃ u₃ (node_laid (decode d mem) (copies_in d mem used) h)
          element-laid m₃ u₃ C₃ =
              copies-same d mem m₃ u₃ (list_laid D (list_laid D (list_laid D A children (handle_index h)) attributes (handle_index h)) namespaces (handle_index h))
              (subst (λ (k : ℕ). Copies d mem m₃ u₃ (list_laid D (list_laid D (list_laid D A children k) attributes k) namespaces k)) e
              (list-next d mem m₂ u₂ B C₁₂ namespaces s refl m₃ u₃ C₃))
              (node_laid D A h) (laid-element D A h (sym kind-is ∙ f))
