-- The rebuilt document, and the call: the order renewed.
-- Assumes nothing.
use mathlib.Core.Path.{◌≡◌, refl, sym, ap, ◌∙◌, subst}
use mathlib.Core.Bool.{true, false}
use mathlib.Core.List.{List}
use Prim.Native.Nat.{ℕ, ◌≤◌}
use native.Mathlib.Omega.{arith}
use native.Mathlib.Nat.{min-eq_left}
use lib.ListN.{length, drop}
use Rattle.blocks.specs.Arena.{arena_of}
use Rattle.blocks.proofs.Copies.{decoded-copied}
use Rattle.model.specs.Kinds.{Which, children, attributes, namespaces}
use Rattle.model.specs.Doc.{Doc, change_arenas, change_current, change_fits}
use Rattle.model.specs.Rules.{Rules}
use Rattle.model.specs.Edits.{Laying, laying, rebuild_arenas, renew_order, order_of}
use Rattle.model.specs.Calls.{compact, done}
use Rattle.layout.specs.declared.Document.{Document}
use Rattle.layout.specs.declared.Limits as given
use Rattle.layout.specs.Layout.{limits_of, entries_of, document_words, memory_ok}
use Rattle.memory.specs.Decode.{counts_within, arena_part, arena_used, slots_made, document_of, pool_in, names_in, lengths_add, decode}
use Rattle.layout.specs.Record.{used_of, renewed}
use Rattle.memory.specs.Step.{Step}
use Rattle.memory.specs.Performed.{Performed}
use Rattle.memory.proofs.Columns.{length-gens}
use Rattle.memory.proofs.Counted.{counts-fit, fit-counts}
use Rattle.memory.proofs.Shaped.{length-arena_part, length_ids, shape}
use Rattle.memory.proofs.Kept.{decode-kept}
use Rattle.walks.specs.Order.{Walkable, put_orders}
use Rattle.walks.proofs.Cleared.{renewed-step}
use Rattle.compaction.specs.declared.copy.Lengths.{Lengths}
use Rattle.compaction.specs.Copies.{length_of, counts_rebuilt, with_blocks, arenas_replaced, lengths_rebuilt, rebuilt_below, TreesLaid}
use Rattle.compaction.proofs.Nodes.{length-is}
use Rattle.compaction.proofs.Layings.{layings}
use Rattle.compaction.proofs.Growing.{made-few}
use Rattle.compaction.proofs.Rebuilding.{rebuilt-fits, walkable-rebuilt}
use Rattle.compaction.proofs.Replacing.{AllReplaced, all-replaced}

module _ (d : Document) (o mem : List ℕ) (used : Lengths) (T : TreesLaid d o mem (slots_made d) used) where
  abbrev D : Doc
  D = decode d o

  abbrev E : Which → ℕ
  E = entries_of d.limits

  few : length (decode d o).gens ≤ 65536
  few = made-few d o T.memory

  -- all trees are laid
  laid-all : (w : Which) → layings (decode d o) (rebuilt_below (decode d o) (slots_made d)) w ≡ laying (decode d o) w
  laid-all w = ap (λ (n : ℕ). layings D (rebuilt_below D n) w) (sym (length-gens (pool_in d o) (names_in d o) (lengths_add d o) d o))

  length-laid : (w : Which) → length_of used w ≡ (laying (decode d o) w).arena.used
  length-laid w = length-is d o mem used (layings D (rebuilt_below D (slots_made d))) T.copies w ∙ ap (λ (l : Laying). l.arena.used) (laid-all w)

  laid-ok : memory_ok d (length mem) ≡ true
  laid-ok = ap (memory_ok d) T.copies.size ∙ T.memory

  pub laid-fits : (w : Which) → length_of used w ≤ entries_of d.limits w
  laid-fits w =
      omega (
        arith,
        length-laid w,
        rebuilt-fits D T.rules (shape (pool_in d o) (names_in d o) (lengths_add d o) d o T.memory) few w,
        (T.rules.blocks w).shaped.fits,
        length_ids d o T.memory w,
      )

  counts-rebuilt : counts_within (limits_of d.limits) (counts_rebuilt d.counts used) ≡ true
  counts-rebuilt =
      let f = counts-fit (limits_of d.limits) d.counts T.rules.fields.counts in
      fit-counts (limits_of d.limits) (counts_rebuilt d.counts used)
      (record {
        slots = f.slots;
        free = f.free;
        used = lengths;
        texts = f.texts;
        free-texts = f.free-texts;
        text-bytes = f.text-bytes;
        names = f.names;
        name-bytes = f.name-bytes;
      })
    where
      lengths : (w : Which) → used_of (counts_rebuilt d.counts used) w ≤ (limits_of d.limits).entries w
      lengths children = laid-fits children
      lengths attributes = laid-fits attributes
      lengths namespaces = laid-fits namespaces

  used-rebuilt : (w : Which) → arena_used (lengths_rebuilt d used) w ≡ length_of used w
  used-rebuilt children = min-eq_left (laid-fits children)
  used-rebuilt attributes = min-eq_left (laid-fits attributes)
  used-rebuilt namespaces = min-eq_left (laid-fits namespaces)

  -- a document with the arenas laid
  abbrev laid_of : Doc → Doc
  laid_of x = change_current (change_arenas x (λ w. (laying (decode d o) w).arena)) false

  module _ (mem' : List ℕ) (e : mem' ≡ arenas_replaced d used mem) where
    A : AllReplaced d used laid-fits mem laid-ok mem'
    A = subst (AllReplaced d used laid-fits mem laid-ok) (sym e) (all-replaced d used laid-fits mem laid-ok)

    arena-after : (w : Which) → arena_of (entries_of d.limits w) (arena_used (lengths_rebuilt d used) w) (arena_part d w mem') ≡ (laying (decode d o) w).arena
    arena-after w =
        ap (λ (n : ℕ). arena_of (E w) n (arena_part d w mem')) (used-rebuilt w)
        ∙ ap (arena_of (E w) (length_of used w)) (A.parts w)
        ∙ decoded-copied (arena_part d w mem) (E w) (length-arena_part d mem laid-ok w) (length_of used w) (laid-fits w)
        ∙ T.copies.copies w
        ∙ ap (λ (l : Laying). l.arena) (laid-all w)

    document-laid : decode (lengths_rebuilt d used) mem' ≡ laid_of (decode d mem)
    unfolding lengths_add
    document-laid =
        decode-kept (lengths_rebuilt d used) mem mem' (record { texts = A.texts.texts; names = A.texts.names })
        ∙ (λ i. document_of (pool_in d mem) (names_in d mem) (lengths_add d mem) (lengths_rebuilt d used) (A.slots i) (λ a. arena_part d a mem'))
        ∙ (λ i.
        let lists = change_arenas (decode d mem) (λ w. arena-after w i) in
        change_fits (change_current lists false) ((counts-rebuilt ∙ sym T.rules.fields.counts) i) (decode d mem).lengths_fit)

    pub document-rebuilt : decode (lengths_rebuilt d used) mem' ≡ rebuild_arenas (decode d o)
    unfolding rebuild_arenas
    document-rebuilt =
        document-laid
        ∙ ap laid_of T.copies.document
        ∙ (λ i. change_current (with_blocks D (λ w. (laid-all w i).ranges) (λ w. (laying D w).arena)) false)

    pub rebuilt-step : (r : Document) → r ≡ lengths_rebuilt d used → Step d o r mem' (rebuild_arenas (decode d o))
    rebuilt-step r q = record {
      document = ap (λ (x : Document). decode x mem') q ∙ document-rebuilt;
      limits = ap (λ (x : Document). x.limits) q;
      size = A.size ∙ T.copies.size;
      past = A.past ∙ T.copies.past;
    }

-- ---- the order renewed

module _ (d : Document) (mem : List ℕ) (ok : memory_ok d (length mem) ≡ true) (R : Rules (decode d mem)) (r : Document) (mem₁ : List ℕ) (S : Step d mem r mem₁ (rebuild_arenas (decode d mem))) where
  pub rebuilt-walkable : Walkable (decode r mem₁)
  rebuilt-walkable =
      subst Walkable (sym S.document)
      (walkable-rebuilt (decode d mem) R (shape (pool_in d mem) (names_in d mem) (lengths_add d mem) d mem ok) (made-few d mem ok))

  pub compacted : memory_ok r (length mem₁) ≡ true → (r' : Document) (mem₂ : List ℕ) → r' ≡ renewed r → mem₂ ≡ put_orders r (order_of (decode r mem₁)) mem₁ → Performed compact d mem done r' mem₂
  compacted ok₁ r' mem₂ e q =
      let N = renewed-step r mem₁ ok₁ r' mem₂ e q in
      record {
        answer = refl;
        change = record {
          document = N.document ∙ ap renew_order S.document;
          limits = N.limits ∙ S.limits;
          size = N.size ∙ S.size;
          past = subst (λ (l : given.Limits). drop (document_words (limits_of l)) mem₂ ≡ drop (document_words (limits_of l)) mem₁) S.limits N.past ∙ S.past;
        };
      }
