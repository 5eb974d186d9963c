-- What the words of a slot say of its being live, and of a handle's resolving, test by test.
-- Assumes nothing.
use mathlib.Core.Path.{◌≡◌, refl, sym, ap, ◌∙◌}
use mathlib.Core.Bool.{Bool, true, false, ◌&&◌, and-false}
use mathlib.Core.List.{List}
use Prim.Native.Nat.{ℕ, ◌%◌, ◌≤◌, ◌<◌}
use borrow.Author.Tests.{eq-eqb, ne_eqb, lt-ltb, le-ltb}
use lib.Dec.{eqb}
use Rattle.records.specs.Handles.{word_of}
use Rattle.records.specs.Records.{is_node, node_of}
use Rattle.slots.specs.Regions.{generation_at, record_at, node_at}
use Rattle.records.specs.declared.NodeId.{NodeId}
use Rattle.records.specs.declared.NodeRecord.{NodeRecord}
use Rattle.model.specs.Doc as doc
use Rattle.model.specs.Doc.{Doc, live_slot, resolves, is_some}
use Rattle.layout.specs.declared.Document.{Document}
use Rattle.memory.specs.Decode.{kind_loaded, slots_part, slots_made, pool_in, names_in, lengths_add, decode}
use Rattle.memory.proofs.Columns as columns

pub node-some : (r : NodeRecord) → is_some (kind_loaded (node_of r)) ≡ is_node r
unfolding node_of
node-some r = go (is_node r) refl
  where
    go : (t : Bool) → is_node r ≡ t → is_some (kind_loaded (node_of r)) ≡ t
    go true e = rw e
    go false e = rw e

module _ (d : Document) (mem : List ℕ) where
  abbrev D : Doc
  D = decode d mem

  abbrev n : ℕ
  n = d.limits.nodes

  abbrev w : List ℕ
  w = slots_part d mem

  module _ (s : ℕ) (b : s < slots_made d) (g : ℕ) (e : g ≡ generation_at d.limits.nodes (slots_part d mem) s) where
    pub live-wide : 4294967296 ≤ g → false ≡ live_slot (decode d mem) s
    live-wide h = sym (columns.live-none (pool_in d mem) (names_in d mem) (lengths_add d mem) d mem s b (rw (← e, le-ltb g 4294967296 h)))

    pub live-odd : (g % 2 ≡ 0 → ⊥) → false ≡ live_slot (decode d mem) s
    live-odd h = sym (columns.live-in (pool_in d mem) (names_in d mem) (lengths_add d mem) d mem s b ∙ rw (← e, ne_eqb (g % 2) 0 h))

    pub live-node : g < 4294967296 → g % 2 ≡ 0 → (r : NodeRecord) → r ≡ record_at d.limits.nodes (slots_part d mem) s → (t : Bool) → t ≡ is_node r
        → t ≡ live_slot (decode d mem) s
    unfolding node_at
    live-node lt even r er t et =
        et ∙ ap is_node er ∙ sym (node-some (record_at n w s))
        ∙ sym (columns.live-in (pool_in d mem) (names_in d mem) (lengths_add d mem) d mem s b ∙ rw (← e, eq-eqb (g % 2) 0 even, lt-ltb g 4294967296 lt))

  module _ (h : NodeId) (hi : h.index < 4294967296) (hg : h.generation < 4294967296) where
    in-word : resolves D (word_of h) ≡ (live_slot D h.index && eqb (doc.generation_at D h.index) h.generation)
    in-word = columns.word-resolves (pool_in d mem) (names_in d mem) (lengths_add d mem) d mem h hi hg

    pub resolves-past : (m : ℕ) → m ≡ slots_made d → m ≤ h.index → false ≡ resolves (decode d mem) (word_of h)
    resolves-past m e p =
        sym (in-word ∙ rw (columns.live-past (pool_in d mem) (names_in d mem) (lengths_add d mem) d mem h.index (rw (← e) p)))

    module _ (b : h.index < slots_made d) (g : ℕ) (e : g ≡ generation_at d.limits.nodes (slots_part d mem) h.index) where
      in-generation : resolves D (word_of h) ≡ (live_slot D h.index && eqb g h.generation)
      in-generation =
          in-word
          ∙ ap (λ (x : ℕ). live_slot D h.index && eqb x h.generation) (columns.generation-in (pool_in d mem) (names_in d mem) (lengths_add d mem) d mem h.index b ∙ sym e)

      pub resolves-other : (g ≡ h.generation → ⊥) → false ≡ resolves (decode d mem) (word_of h)
      resolves-other ne =
          sym (in-generation ∙ ap (λ (t : Bool). live_slot D h.index && t) (ne_eqb g h.generation ne) ∙ and-false (live_slot D h.index))

      pub resolves-same : g ≡ h.generation → (t : Bool) → t ≡ live_slot (decode d mem) h.index → t ≡ resolves (decode d mem) (word_of h)
      resolves-same q t et =
          et ∙ sym (in-generation ∙ ap (λ (u : Bool). live_slot D h.index && u) (eq-eqb g h.generation q) ∙ and-true (live_slot D h.index))
        where
          and-true : (u : Bool) → (u && true) ≡ u
          and-true true = refl
          and-true false = refl
