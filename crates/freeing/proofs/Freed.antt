-- A slot freed: its generation and the free stack written, and the document then.
-- Assumes nothing.
use Rattle.records.specs.declared.Node.{Node}
use Rattle.std.specs.Prelude.{Option}
use mathlib.Core.Path.{◌≡◌, refl, sym, ap, subst, ◌∙◌}
use mathlib.Core.Bool.{true, false}
use mathlib.Core.List.{List, ◌∷◌, reverse}
use Prim.Native.Nat.{ℕ, suc, ◌+◌, ◌*◌, ◌≤◌, ◌<◌, min}
use native.Mathlib.Omega.{arith}
use native.Mathlib.Nat.{min-eq_left}
use native.Mathlib.Decide.{ℕ_discrete}
use lib.ListN.{length, set, length-reverse}
use borrow.Author.Tests.{lt-ltb}
use Rattle.words.specs.Lists.{tabulate}
use Rattle.words.proofs.Lists.{length-tabulate, get_or-tabulate, tabulate-same, tabulate-set}
use Rattle.blocks.specs.Arena.{arena_of}
use Rattle.slots.specs.Regions.{slots_words, generation_at, free_at, node_at, order_at, put_generation, put_free}
use Rattle.slots.specs.Slots.{freed_words}
use Rattle.slots.proofs.Regions.{length-put_generation, length-put_free, generation_at-put_generation, generation_at-put_generation-other, free_at-put_generation, record_at-put_generation, order_at-put_generation, free_at-put_free, free_at-put_free-other, generation_at-put_free, record_at-put_free, order_at-put_free, node_at-record_at}
use Rattle.model.specs.Kinds.{Which, children, attributes, namespaces, texts_of}
use Rattle.model.specs.Doc.{Doc, change_slots, change_nodes, change_arenas, change_order, change_fits, kind_in}
use Rattle.model.specs.Edits.{up}
use Rattle.layout.specs.declared.Document.{Document}
use Rattle.layout.specs.Layout.{limits_of, entries_of, memory_ok}
use Rattle.memory.specs.Decode.{kind_loaded, parent_loaded, range_loaded, loaded_at, counts_within, slots_part, arena_part, slots_made, slots_free, pool_in, names_in, lengths_add, decode_with, decode}
use Rattle.layout.specs.Record.{used_of, slot_counts, with_slots}
use Rattle.memory.specs.Writing.{put_slots}
use Rattle.memory.specs.Step.{Step}
use Rattle.memory.proofs.Columns.{length-gens, generation-in}
use Rattle.memory.proofs.Counted.{counts-fit, fit-counts}
use Rattle.memory.proofs.Kept.{decode-kept, put_slots-texts}
use Rattle.memory.proofs.Shaped.{length-slots_part}
use Rattle.memory.proofs.Written.{length-put_slots, decode-put_slots}
use Rattle.edits.specs.Pooled.{set_pool}
use Rattle.edits.proofs.Composed.{step-next}
use Rattle.memory.proofs.Past.{slots-past}
use Rattle.edits.proofs.Taking.{reverse-next}
use Rattle.freeing.specs.Freed.{pushed_all, free_slot, free_node}
use Rattle.freeing.specs.Asked.{SlotFreeable, NodeFreeable}

-- ---- the words

module _ (n : ℕ) (w : List ℕ) (long : slots_words n ≤ length w) (free s : ℕ) (fb : free < n) (sb : s < n) (gb : generation_at n w s < 4294967296) where
  abbrev g : ℕ
  g = up (generation_at n w s)

  abbrev v : List ℕ
  v = put_generation n w s g

  abbrev u : List ℕ
  u = put_free n v free s

  long-v : slots_words n ≤ length v
  long-v = omega (arith, length-put_generation n w s g)

  pub length-freed : length (freed_words n w free s) ≡ length w
  unfolding freed_words
  length-freed = length-put_free n v free s ∙ length-put_generation n w s g

  pub generation-here : generation_at n (freed_words n w free s) s ≡ up (generation_at n w s)
  unfolding freed_words
  generation-here = generation_at-put_free n v long-v free s fb s sb ∙ generation_at-put_generation n w long s g sb

  pub generation-other : (t : ℕ) → t < n → (t ≡ s → ⊥) → generation_at n (freed_words n w free s) t ≡ generation_at n w t
  unfolding freed_words
  generation-other t b ne = generation_at-put_free n v long-v free s fb t b ∙ generation_at-put_generation-other n w long s g sb t ne

  pub free-here : free_at n (freed_words n w free s) free ≡ s
  unfolding freed_words
  free-here = free_at-put_free n v long-v free s fb

  pub free_other : (i : ℕ) → (i ≡ free → ⊥) → free_at n (freed_words n w free s) i ≡ free_at n w i
  unfolding freed_words
  free_other i ne = free_at-put_free-other n v long-v free s fb i ne ∙ free_at-put_generation n w long s g sb i

  pub order_same : (t : ℕ) → order_at n (freed_words n w free s) t ≡ order_at n w t
  unfolding freed_words
  order_same t = order_at-put_free n v long-v free s fb t ∙ order_at-put_generation n w long s g sb t

  -- what was left in a freed slot reads as before
  pub loaded-same : (t : ℕ) → t < n → loaded_at n (freed_words n w free s) t ≡ loaded_at n w t
  unfolding freed_words
  loaded-same t b = go (ℕ_discrete t s)
    where
      node : node_at n u t ≡ node_at n w t
      node = node_at-record_at n u w t t (record_at-put_free n v long-v free s fb t ∙ record_at-put_generation n w long s g sb t)

      go : Dec (t ≡ s) → loaded_at n u t ≡ loaded_at n w t
      go (yes e) =
          let a : generation_at n u t < 4294967296 = omega (arith, ap (generation_at n u) e, generation-here) in
          let c : generation_at n w t < 4294967296 = omega (arith, ap (generation_at n w) e) in
          rw (lt-ltb (generation_at n u t) 4294967296 a, lt-ltb (generation_at n w t) 4294967296 c) node
      go (no ne) = rw (generation-other t b ne, node)

-- ---- the document

module _ (d : Document) (mem : List ℕ) (ok : memory_ok d (length mem) ≡ true) (s : ℕ) (f : SlotFreeable (decode d mem) s) where
  abbrev N : ℕ
  N = d.limits.nodes

  abbrev W : List ℕ
  W = slots_part d mem

  abbrev F : ℕ
  F = d.counts.free

  abbrev U : List ℕ
  U = freed_words N W F s

  abbrev D : Doc
  D = decode d mem

  long-w : slots_words N ≤ length W
  long-w = omega (arith, length-slots_part d mem ok)

  pub slot-made : s < slots_made d
  slot-made = omega (arith, f.made, length-gens (pool_in d mem) (names_in d mem) (lengths_add d mem) d mem)

  sb : s < N
  sb = omega (arith, slot-made)

  gb : generation_at N W s < 4294967296
  gb = omega (arith, f.generation, get_or-tabulate (generation_at N W) (slots_made d) s 0 slot-made)

  fb : F < N
  fb = omega (arith, f.room, length-reverse (tabulate (free_at N W) (slots_free d)), length-tabulate (free_at N W) (slots_free d))

  size-u : length U ≡ 15 * N
  size-u = length-freed N W long-w F s fb sb gb ∙ length-slots_part d mem ok

  used-same : (v : Which) → used_of (slot_counts d.counts d.counts.slots (F + 1)) v ≡ used_of d.counts v
  used-same children = refl
  used-same attributes = refl
  used-same namespaces = refl

  counts-freed : counts_within (limits_of d.limits) (slot_counts d.counts d.counts.slots (F + 1)) ≡ counts_within (limits_of d.limits) d.counts
  counts-freed =
      let q = counts-fit (limits_of d.limits) d.counts f.counts in
      fit-counts (limits_of d.limits) (slot_counts d.counts d.counts.slots (F + 1))
      (record { slots = q.slots; free = omega (arith, fb); used = lengths-in; texts = q.texts; free-texts = q.free-texts; text-bytes = q.text-bytes; names = q.names; name-bytes = q.name-bytes })
      ∙ sym f.counts
    where
      lengths-in : (v : Which) → used_of (slot_counts d.counts d.counts.slots (F + 1)) v ≤ entries_of d.limits v
      lengths-in v = omega (arith, used-same v, (counts-fit (limits_of d.limits) d.counts f.counts).used v)

  column-same : {A : Type 0} (h : Option Node → A) → tabulate (λ t. h (loaded_at N U t)) (slots_made d) ≡ tabulate (λ t. h (loaded_at N W t)) (slots_made d)
  column-same h = tabulate-same (λ t. h (loaded_at N U t)) (λ t. h (loaded_at N W t)) (slots_made d) (λ t b. ap h (loaded-same N W long-w F s fb sb gb t (omega arith)))

  decode-freed : decode_with (pool_in d mem) (names_in d mem) (lengths_add d mem) (with_slots d d.counts.slots (F + 1)) (put_slots U mem) ≡ free_slot (decode d mem) s
  unfolding free_slot
  decode-freed =
      let ef : min (F + 1) N ≡ suc F = min-eq_left (omega (arith, fb)) ∙ omega arith in
      let eo : min F N ≡ F = min-eq_left (omega (arith, fb)) in
      decode-put_slots d mem U ok size-u (pool_in d mem) (names_in d mem) (lengths_add d mem) (slot_counts d.counts d.counts.slots (F + 1)) false
      ∙ (λ i.
      let slots =
      change_slots D
      ((tabulate-set (generation_at N U) (generation_at N W) (slots_made d) s (up (generation_at N W s)) slot-made
      (λ t k ne. generation-other N W long-w F s fb sb gb t (omega arith) ne) (generation-here N W long-w F s fb sb gb)
      ∙ ap (λ (x : ℕ). set D.gens s (up x)) (sym (generation-in (pool_in d mem) (names_in d mem) (lengths_add d mem) d mem s slot-made))) i)
      ((ap (λ (k : ℕ). reverse (tabulate (free_at N U) k)) ef
      ∙ reverse-next (free_at N U) F
      ∙ ap (λ (x : ℕ). x ∷ reverse (tabulate (free_at N U) F)) (free-here N W long-w F s fb sb gb)
      ∙ ap (λ (l : List ℕ). s ∷ reverse l) (tabulate-same (free_at N U) (free_at N W) F (λ t k. free_other N W long-w F s fb sb gb t (λ x. omega arith)))
      ∙ ap (λ (k : ℕ). s ∷ reverse (tabulate (free_at N W) k)) (sym eo)) i) in
      let nodes = change_nodes slots (column-same kind_loaded i) (column-same parent_loaded i) (λ a. column-same (range_loaded a) i) in
      let lists = change_arenas nodes (λ a. arena_of (entries_of d.limits a) (min (used-same a i) (entries_of d.limits a)) (arena_part d a mem)) in
      let order = tabulate-same (order_at N U) (order_at N W) N (λ t k. order_same N W long-w F s fb sb gb t) i in
      change_fits (change_order lists order false) (counts-freed i) D.lengths_fit)

  -- ---- the slot freed

  pub slot-freeable : (s < d.limits.nodes) × (d.counts.free < d.limits.nodes) × (generation_at d.limits.nodes (slots_part d mem) s < 4294967296)
  slot-freeable = (sb, fb, gb)

  pub slot-freed : (mem' : List ℕ) → mem' ≡ put_slots (freed_words d.limits.nodes (slots_part d mem) d.counts.free s) mem
      → (free : ℕ) → free ≡ d.counts.free + 1 → (r : Document) → r ≡ with_slots d d.counts.slots free
      → Step d mem r mem' (free_slot (decode d mem) s)
  unfolding lengths_add
  slot-freed mem' e free ef r er =
      let k = put_slots-texts d mem U size-u in
      let after = with_slots d d.counts.slots (F + 1) in
      let stepped : Step d mem after (put_slots U mem) (free_slot (decode d mem) s) =
      record {
        document = decode-kept after mem (put_slots U mem) (record { texts = k.texts; names = k.names }) ∙ decode-freed;
        limits = refl;
        size = length-put_slots d mem U ok size-u;
        past = slots-past d mem ok U size-u;
      } in
      subst (λ (x : Document). Step d mem x mem' (free_slot (decode d mem) s)) (sym (er ∙ ap (with_slots d d.counts.slots) ef))
      (subst (λ (x : List ℕ). Step d mem after x (free_slot (decode d mem) s)) (sym e) stepped)

-- ---- a node: its text slots, then its slot

module _ (d : Document) (mem : List ℕ) (s : ℕ) (f : NodeFreeable (decode d mem) s) (e : Document) (mem₁ : List ℕ)
    (t : Step d mem e mem₁ (set_pool (decode d mem) (pushed_all (decode d mem).pool (texts_of (kind_in (decode d mem) s))))) where
  pub pushed-freeable : SlotFreeable (decode e mem₁) s
  unfolding set_pool
  pushed-freeable =
      subst (λ (x : Doc). SlotFreeable x s) (sym t.document)
      (record { counts = f.slot.counts; made = f.slot.made; generation = f.slot.generation; room = f.slot.room })

  pub node-freed : (r : Document) (mem₂ : List ℕ) → Step e mem₁ r mem₂ (free_slot (decode e mem₁) s) → Step d mem r mem₂ (free_node (decode d mem) s)
  node-freed r mem₂ u =
      step-next d mem e mem₁ (set_pool (decode d mem) (pushed_all (decode d mem).pool (texts_of (kind_in (decode d mem) s)))) t (λ (x : Doc). free_slot x s) r mem₂ u
