-- What the decoded document has in a slot, in terms of the words: for every memory, whatever the texts and the names are.
-- Assumes nothing.
use Rattle.std.specs.Prelude.{Option, None, Some}
use mathlib.Core.Path.{◌≡◌, refl, sym, ap, ◌∙◌}
use mathlib.Core.Bool.{Bool, true, false, ◌&&◌, cond, and-false}
use mathlib.Core.List.{List}
use Prim.Native.Nat.{ℕ, ◌%◌, ◌≤◌, ◌<◌}
use native.Mathlib.Omega.{arith}
use native.Mathlib.Decide.{dec_lt, ℕ_discrete}
use lib.ListN.{length, get_or, get_or-eq_default}
use lib.Dec.{eqb}
use borrow.Author.Tests.{lt-ltb, eq-eqb, ne_eqb}
use Rattle.words.specs.Lists.{tabulate}
use Rattle.words.proofs.Lists.{length-tabulate, get_or-tabulate}
use Rattle.blocks.specs.Arena.{block, list_of}
use Rattle.records.specs.Handles.{word_of, handle_index}
use Rattle.slots.specs.Regions.{generation_at, node_at, order_at}
use Rattle.slots.specs.Slots.{is_current, resolved}
use Rattle.records.specs.declared.NodeId.{NodeId}
use Rattle.records.specs.declared.Node.{Node}
use Rattle.records.proofs.Handles.{handle_index-word_of, handle_generation-word_of}
use Rattle.slots.proofs.Slots.{resolves-found, resolves-current}
use Rattle.texts.specs.Pool.{Pool}
use Rattle.names.specs.Table.{Name}
use Rattle.model.specs.Kinds.{Which}
use Rattle.model.specs.Doc as doc
use Rattle.model.specs.Doc.{Doc, even, is_some, handle_word, live_slot, handle_at, resolves, kind_in, parent_in, range_in, list_in}
use Rattle.layout.specs.declared.Document.{Document}
use Rattle.memory.specs.Decode.{kind_of, handle_of, range_of, kind_loaded, parent_loaded, range_loaded, loaded_at, slots_part, slots_made, arena_in, resolved_in, decode_with}

past-tabulate : {A : Type 0} (f : ℕ → A) (n i : ℕ) (e : A) → n ≤ i → get_or (tabulate f n) i e ≡ e
past-tabulate f n i e h = get_or-eq_default (tabulate f n) e {n = i} (omega (arith, length-tabulate f n))

module _ (p : Pool) (names : List (Option Name)) (lengths : Bool) (d : Document) (mem : List ℕ) where
  abbrev D : Doc
  D = decode_with p names lengths d mem

  abbrev n : ℕ
  n = d.limits.nodes

  abbrev w : List ℕ
  w = slots_part d mem

  pub length-gens : length (decode_with p names lengths d mem).gens ≡ slots_made d
  length-gens = length-tabulate (generation_at n w) (slots_made d)

  -- ---- a slot that was made

  module _ (s : ℕ) (b : s < slots_made d) where
    pub generation-in : doc.generation_at (decode_with p names lengths d mem) s ≡ generation_at d.limits.nodes (slots_part d mem) s
    generation-in = get_or-tabulate (generation_at n w) (slots_made d) s 1 b

    pub kind-column : get_or (decode_with p names lengths d mem).kinds s None ≡ kind_loaded (loaded_at d.limits.nodes (slots_part d mem) s)
    kind-column = get_or-tabulate (λ t. kind_loaded (loaded_at n w t)) (slots_made d) s None b

    pub parent-in : parent_in (decode_with p names lengths d mem) s ≡ parent_loaded (loaded_at d.limits.nodes (slots_part d mem) s)
    parent-in = get_or-tabulate (λ t. parent_loaded (loaded_at n w t)) (slots_made d) s None b

    pub range-in : (a : Which) → range_in (decode_with p names lengths d mem) a s ≡ range_loaded a (loaded_at d.limits.nodes (slots_part d mem) s)
    range-in a = get_or-tabulate (λ t. range_loaded a (loaded_at n w t)) (slots_made d) s (block 0 0) b

    pub list-in : (a : Which) → list_in (decode_with p names lengths d mem) a s ≡ list_of (arena_in d a mem) (range_loaded a (loaded_at d.limits.nodes (slots_part d mem) s))
    list-in a = ap (list_of (arena_in d a mem)) (range-in a)

    pub handle-in : handle_at (decode_with p names lengths d mem) s ≡ handle_word s (generation_at d.limits.nodes (slots_part d mem) s)
    handle-in = ap (handle_word s) generation-in

    pub live-in : live_slot (decode_with p names lengths d mem) s
        ≡ (even (generation_at d.limits.nodes (slots_part d mem) s) && is_some (kind_loaded (loaded_at d.limits.nodes (slots_part d mem) s)))
    live-in = rw (generation-in, kind-column)

    -- ---- its node, where its words are one
    module _ (m : Node) (e : loaded_at d.limits.nodes (slots_part d mem) s ≡ Some m) where
      pub kind-found : kind_in (decode_with p names lengths d mem) s ≡ kind_of m.«data»
      kind-found = rw (kind-column, e)

      pub parent-found : parent_in (decode_with p names lengths d mem) s ≡ handle_of m.parent
      parent-found = parent-in ∙ ap parent_loaded e

      pub range-found : (a : Which) → range_in (decode_with p names lengths d mem) a s ≡ range_of a m
      range-found a = range-in a ∙ ap (range_loaded a) e

      pub list-found : (a : Which) → list_in (decode_with p names lengths d mem) a s ≡ list_of (arena_in d a mem) (range_of a m)
      list-found a = ap (list_of (arena_in d a mem)) (range-found a)

      pub live-found : live_slot (decode_with p names lengths d mem) s ≡ even (generation_at d.limits.nodes (slots_part d mem) s)
      live-found = live-in ∙ ap (λ (l : Option Node). even (generation_at n w s) && is_some (kind_loaded l)) e ∙ and-true (even (generation_at n w s))
        where
          and-true : (t : Bool) → (t && true) ≡ t
          and-true true = refl
          and-true false = refl

    pub live-none : loaded_at d.limits.nodes (slots_part d mem) s ≡ None → live_slot (decode_with p names lengths d mem) s ≡ false
    live-none e = live-in ∙ ap (λ (l : Option Node). even (generation_at n w s) && is_some (kind_loaded l)) e ∙ and-false (even (generation_at n w s))

  -- ---- a slot past those made

  module _ (s : ℕ) (b : slots_made d ≤ s) where
    pub generation-past : doc.generation_at (decode_with p names lengths d mem) s ≡ 1
    generation-past = past-tabulate (generation_at n w) (slots_made d) s 1 b

    pub live-past : live_slot (decode_with p names lengths d mem) s ≡ false
    live-past = rw generation-past

  -- a live slot was made
  pub live_made : (s : ℕ) → live_slot (decode_with p names lengths d mem) s ≡ true → s < slots_made d
  live_made s h = go (dec_lt s (slots_made d))
    where
      go : Dec (s < slots_made d) → s < slots_made d
      go (yes b) = b
      go (no nb) =
          let q = live-past s (omega arith) in
          let z : ◌≡◌ {A = ℕ} 0 1 = cc in
          absurd (omega arith)

  pub order-in : (s : ℕ) → s < d.limits.nodes → get_or (decode_with p names lengths d mem).order s 0 ≡ order_at d.limits.nodes (slots_part d mem) s
  order-in s b = get_or-tabulate (order_at n w) n s 0 b

  -- ---- a handle

  module _ (h : NodeId) (hi : h.index < 4294967296) (hg : h.generation < 4294967296) where
    pub word-resolves : resolves (decode_with p names lengths d mem) (word_of h) ≡ (live_slot (decode_with p names lengths d mem) h.index && eqb (doc.generation_at (decode_with p names lengths d mem) h.index) h.generation)
    word-resolves =
        ap (λ (g : ℕ). live_slot D (handle_index (word_of h)) && eqb (doc.generation_at D (handle_index (word_of h))) g) (handle_generation-word_of h hi)
        ∙ ap (λ (i : ℕ). live_slot D i && eqb (doc.generation_at D i) h.generation) (handle_index-word_of h hi)

    -- what resolves: the slot was made, its node is loaded, and the document's handle resolves
    pub record Resolved (m : Node) : Type 0 where
      pub slot-made : h.index < slots_made d
      pub loaded : loaded_at d.limits.nodes (slots_part d mem) h.index ≡ Some m
      pub generation : generation_at d.limits.nodes (slots_part d mem) h.index ≡ h.generation
      pub resolves-handle : resolves (decode_with p names lengths d mem) (word_of h) ≡ true

    loaded-narrow : generation_at n w h.index ≡ h.generation → loaded_at n w h.index ≡ node_at n w h.index
    loaded-narrow e = rw (e, lt-ltb h.generation 4294967296 hg)

    pub resolved-found : (m : Node) → resolved_in d mem h ≡ Some m → Resolved m
    unfolding resolved
    resolved-found m e =
        let c = resolves-current n w (slots_made d) h (resolves-found n w (slots_made d) h m e) in
        let l : loaded_at n w h.index ≡ Some m = loaded-narrow c.same-generation ∙ found-node e in
        record {
          slot-made = c.made-slot;
          loaded = l;
          generation = c.same-generation;
          resolves-handle =
              word-resolves
              ∙ rw (
                live-found h.index c.made-slot m l,
                generation-in h.index c.made-slot,
                c.same-generation,
                eq-eqb (h.generation % 2) 0 c.even-generation,
                eq-eqb h.generation h.generation refl,
              );
        }
      where
        found-node : resolved_in d mem h ≡ Some m → node_at n w h.index ≡ Some m
        found-node e = go (is_current n w (slots_made d) h) e
          where
            go : (t : Bool) → cond t (node_at n w h.index) None ≡ Some m → node_at n w h.index ≡ Some m
            go true q = q
            go false q =
                let z : ◌≡◌ {A = ℕ} 0 1 = cc in
                absurd (omega arith)

    pub resolved-none : resolved_in d mem h ≡ None → resolves (decode_with p names lengths d mem) (word_of h) ≡ false
    unfolding resolved is_current
    resolved-none e = word-resolves ∙ made (dec_lt h.index (slots_made d))
      where
        even-here : (b : h.index < slots_made d) → generation_at n w h.index ≡ h.generation → Dec (h.generation % 2 ≡ 0) → live_slot D h.index ≡ false
        even-here b q (yes v) =
            live-none h.index b
            (loaded-narrow q
            ∙ sym (rw (lt-ltb _ _ b, q, eq-eqb h.generation h.generation refl, eq-eqb (h.generation % 2) 0 v))
            ∙ e)
        even-here b q (no v) = live-in h.index b ∙ rw (q, ne_eqb (h.generation % 2) 0 v)

        same : (b : h.index < slots_made d) → Dec (generation_at n w h.index ≡ h.generation) → (live_slot D h.index && eqb (doc.generation_at D h.index) h.generation) ≡ false
        same b (yes q) = ap (λ (t : Bool). t && eqb (doc.generation_at D h.index) h.generation) (even-here b q (ℕ_discrete (h.generation % 2) 0))
        same b (no q) =
            ap (λ (g : ℕ). live_slot D h.index && eqb g h.generation) (generation-in h.index b)
            ∙ ap (λ (t : Bool). live_slot D h.index && t) (ne_eqb (generation_at n w h.index) h.generation q)
            ∙ and-false (live_slot D h.index)

        made : Dec (h.index < slots_made d) → (live_slot D h.index && eqb (doc.generation_at D h.index) h.generation) ≡ false
        made (yes b) = same b (ℕ_discrete (generation_at n w h.index) h.generation)
        made (no b) = ap (λ (t : Bool). t && eqb (doc.generation_at D h.index) h.generation) (live-past h.index (omega arith))
