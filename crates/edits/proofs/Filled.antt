-- A slot's generation, its order word and its record are written, and the document then is one with a new node.
-- Assumes nothing.
use Rattle.std.specs.Prelude.{Option, None, Some}
use mathlib.Core.Path.{◌≡◌, refl, sym, ap, ◌∙◌}
use mathlib.Core.Bool.{Bool, true, false}
use mathlib.Core.List.{List, [], ◌∷◌, ◌++◌, reverse}
use Prim.Native.Nat.{ℕ, suc, ◌+◌, ◌*◌, ◌≤◌, ◌<◌, min}
use native.Mathlib.Omega.{arith}
use native.Mathlib.Nat.{min-eq_left}
use lib.ListN.{length, set}
use Rattle.words.specs.Lists.{tabulate}
use Rattle.words.proofs.Lists.{length-tabulate, tabulate-same, tabulate-set}
use Rattle.blocks.specs.Arena.{block, arena_of}
use Rattle.records.specs.Records.{record_of}
use Rattle.slots.specs.Regions.{slots_words, generation_at, free_at, order_at, put_generation, put_record, put_order, no_position}
use Rattle.records.specs.declared.Node.{Node}
use Rattle.records.proofs.Records.{node-back}
use Rattle.slots.proofs.Regions.{length-put_generation, length-put_record, generation_at-put_generation, generation_at-put_generation-other, free_at-put_generation, record_at-put_generation, order_at-put_generation, record_at-put_record-other, node_at-record_at, generation_at-put_record, free_at-put_record, order_at-put_record, length-put_order, generation_at-put_order, free_at-put_order, record_at-put_order, order_at-put_order, order_at-put_order-other}
use Rattle.texts.specs.Pool.{Pool}
use Rattle.names.specs.Table.{Name}
use Rattle.model.specs.Kinds.{Which, children, attributes, namespaces}
use Rattle.model.specs.Doc as doc
use Rattle.model.specs.Doc.{Doc, change_slots, change_nodes, change_arenas, change_order, change_fits}
use Rattle.model.specs.Edits.{up, born_from}
use Rattle.layout.specs.declared.Document.{Document}
use Rattle.layout.specs.Layout.{limits_of, entries_of, memory_ok}
use Rattle.memory.specs.Decode.{kind_of, kind_loaded, parent_loaded, range_loaded, loaded_at, counts_within, slots_part, arena_part, slots_made, decode_with}
use Rattle.layout.specs.Record.{used_of, slot_counts, with_slots}
use Rattle.memory.specs.Writing.{put_slots}
use Rattle.memory.proofs.Columns.{generation-in}
use Rattle.memory.proofs.Columned.{loaded-here}
use Rattle.memory.proofs.Counted.{counts-fit, fit-counts}
use Rattle.memory.proofs.Shaped.{length-slots_part}
use Rattle.memory.proofs.Written.{decode-put_slots}
use Rattle.edits.specs.Slot.{Newborn}

-- one entry more
tabulate-more : {A : Type 0} (f g : ℕ → A) (k : ℕ) (e : A) → ((i : ℕ) → i < k → f i ≡ g i) → f k ≡ e → tabulate f (k + 1) ≡ tabulate g k ++ (e ∷ [])
tabulate-more {A} f g k e h q =
    let j : k + 1 ≡ suc k = omega arith in
    ap (tabulate f) j ∙ ap (λ (l : List A). l ++ (f k ∷ [])) (tabulate-same f g k h) ∙ ap (λ (x : A). tabulate g k ++ (x ∷ [])) q

-- the words of a slot filled: its generation, no position in document order, then its record
abbrev pub filled_words : ℕ → List ℕ → ℕ → ℕ → Node → List ℕ
filled_words n w s g m = put_record n (put_order n (put_generation n w s g) s no_position) s (record_of m)

module _ (n : ℕ) (w : List ℕ) (long : slots_words n ≤ length w) (s g : ℕ) (sb : s < n) (gb : g < 4294967296) (m : Node) (new : Newborn m) where
  abbrev r : List ℕ
  r = put_generation n w s g

  abbrev v : List ℕ
  v = put_order n r s no_position

  abbrev u : List ℕ
  u = filled_words n w s g m

  long-r : slots_words n ≤ length r
  long-r = omega (arith, length-put_generation n w s g)

  long-v : slots_words n ≤ length v
  long-v = omega (arith, long-r, length-put_order n r s no_position)

  pub length-filled : length (filled_words n w s g m) ≡ length w
  length-filled = length-put_record n v long-v s (record_of m) sb ∙ length-put_order n r s no_position ∙ length-put_generation n w s g

  generation-same : (t : ℕ) → t < n → generation_at n u t ≡ generation_at n r t
  generation-same t b = generation_at-put_record n v long-v s (record_of m) sb t b ∙ generation_at-put_order n r long-r s no_position sb t b

  generation-here : generation_at n u s ≡ g
  generation-here = generation-same s sb ∙ generation_at-put_generation n w long s g sb

  generation-other : (t : ℕ) → t < n → (t ≡ s → ⊥) → generation_at n u t ≡ generation_at n w t
  generation-other t b ne = generation-same t b ∙ generation_at-put_generation-other n w long s g sb t ne

  free-same : (i : ℕ) → i < n → free_at n u i ≡ free_at n w i
  free-same i b =
      free_at-put_record n v long-v s (record_of m) sb i b ∙ free_at-put_order n r long-r s no_position sb i b ∙ free_at-put_generation n w long s g sb i

  order-here : order_at n u s ≡ no_position
  order-here = order_at-put_record n v long-v s (record_of m) sb s ∙ order_at-put_order n r long-r s no_position sb

  order_other : (t : ℕ) → (t ≡ s → ⊥) → order_at n u t ≡ order_at n w t
  order_other t ne =
      order_at-put_record n v long-v s (record_of m) sb t ∙ order_at-put_order-other n r long-r s no_position sb t ne ∙ order_at-put_generation n w long s g sb t

  pub order-filled : tabulate (order_at n (filled_words n w s g m)) n ≡ set (tabulate (order_at n w) n) s no_position
  order-filled = tabulate-set (order_at n u) (order_at n w) n s no_position sb (λ t k ne. order_other t ne) order-here

  filled-here : loaded_at n u s ≡ Some m
  filled-here =
      loaded-here n v long-v s (record_of m) sb (Some m)
      (omega (arith, generation_at-put_order n r long-r s no_position sb s sb, generation_at-put_generation n w long s g sb)) (node-back m new.fits)

  filled-other : (t : ℕ) → t < n → (t ≡ s → ⊥) → loaded_at n u t ≡ loaded_at n w t
  filled-other t b ne =
      rw (
        generation-other t b ne,
        node_at-record_at n u w t t
            (record_at-put_record-other n v long-v s (record_of m) sb t ne ∙ record_at-put_order n r long-r s no_position sb t b ∙ record_at-put_generation n w long s g sb t),
      )

  -- a column of what is loaded: one entry changed, or one more
  module _ {A : Type 0} (f : Option Node → A) (e : A) (q : f (Some m) ≡ e) where
    column-changed : (made : ℕ) → made ≤ n → s < made → tabulate (λ t. f (loaded_at n u t)) made ≡ set (tabulate (λ t. f (loaded_at n w t)) made) s e
    column-changed made mb b =
        tabulate-set (λ t. f (loaded_at n u t)) (λ t. f (loaded_at n w t)) made s e b (λ t k ne. ap f (filled-other t (omega arith) ne)) (ap f filled-here ∙ q)

    column-more : (made : ℕ) → s ≡ made → tabulate (λ t. f (loaded_at n u t)) (made + 1) ≡ tabulate (λ t. f (loaded_at n w t)) made ++ (e ∷ [])
    column-more made j =
        tabulate-more (λ t. f (loaded_at n u t)) (λ t. f (loaded_at n w t)) made e (λ t k. ap f (filled-other t (omega arith) (λ x. omega arith)))
        (ap (λ (t : ℕ). f (loaded_at n u t)) (sym j) ∙ ap f filled-here ∙ q)

-- ---- the document

module _ (p : Pool) (names : List (Option Name)) (lengths : Bool) (d : Document) (mem : List ℕ) (ok : memory_ok d (length mem) ≡ true)
    (counts : counts_within (limits_of d.limits) d.counts ≡ true) (s g : ℕ) (sb : s < d.limits.nodes) (gb : g < 4294967296) (m : Node) (new : Newborn m) where
  abbrev N : ℕ
  N = d.limits.nodes

  abbrev W : List ℕ
  W = slots_part d mem

  abbrev D : Doc
  D = decode_with p names lengths d mem

  abbrev U : List ℕ
  U = filled_words N W s g m

  long-w : slots_words N ≤ length W
  long-w = omega (arith, length-slots_part d mem ok)

  size-u : length U ≡ 15 * N
  size-u = length-filled N W long-w s g sb gb m new ∙ length-slots_part d mem ok

  used-same : (made free : ℕ) (v : Which) → used_of (slot_counts d.counts made free) v ≡ used_of d.counts v
  used-same made free children = refl
  used-same made free attributes = refl
  used-same made free namespaces = refl

  counts-filled : (made free : ℕ) → made ≤ N → free ≤ N → counts_within (limits_of d.limits) (slot_counts d.counts made free) ≡ counts_within (limits_of d.limits) d.counts
  counts-filled made free mb fb =
      let f = counts-fit (limits_of d.limits) d.counts counts in
      fit-counts (limits_of d.limits) (slot_counts d.counts made free)
      (record { slots = mb; free = fb; used = lengths-in; texts = f.texts; free-texts = f.free-texts; text-bytes = f.text-bytes; names = f.names; name-bytes = f.name-bytes })
      ∙ sym counts
    where
      lengths-in : (v : Which) → used_of (slot_counts d.counts made free) v ≤ entries_of d.limits v
      lengths-in v = omega (arith, used-same made free v, (counts-fit (limits_of d.limits) d.counts counts).used v)

  -- a slot that was made before
  module _ (free : ℕ) (fb : free ≤ N) (tb : s < slots_made d) (eg : g ≡ up (generation_at N W s)) where
    made_in : slots_made d ≤ N
    made_in = omega arith

    pub decode-reused : decode_with p names lengths (with_slots d (slots_made d) free) (put_slots (filled_words d.limits.nodes (slots_part d mem) s g m) mem)
        ≡ born_from (s ∷ reverse (tabulate (free_at d.limits.nodes (slots_part d mem)) free)) (decode_with p names lengths d mem) (kind_of m.«data») p names
    decode-reused =
        let made = slots_made d in
        let em : min made N ≡ made = min-eq_left made_in in
        let ef : min free N ≡ free = min-eq_left fb in
        let eu : g ≡ up (doc.generation_at D s) = eg ∙ ap up (sym (generation-in p names lengths d mem s tb)) in
        decode-put_slots d mem U ok size-u p names lengths (slot_counts d.counts made free) false
        ∙ (λ i.
        let slots =
        change_slots D
        ((ap (tabulate (generation_at N U)) em
        ∙ tabulate-set (generation_at N U) (generation_at N W) made s g tb (λ t k ne. generation-other N W long-w s g sb gb m new t (omega arith) ne) (generation-here N W long-w s g sb gb m new)
        ∙ ap (set D.gens s) eu) i)
        ((ap (λ (k : ℕ). reverse (tabulate (free_at N U) k)) ef ∙ ap reverse (tabulate-same (free_at N U) (free_at N W) free (λ t k. free-same N W long-w s g sb gb m new t (omega arith)))) i) in
        let nodes =
        change_nodes slots
        ((ap (tabulate (λ t. kind_loaded (loaded_at N U t))) em ∙ column-changed N W long-w s g sb gb m new kind_loaded (Some (kind_of m.«data»)) refl made made_in tb) i)
        ((ap (tabulate (λ t. parent_loaded (loaded_at N U t))) em ∙ column-changed N W long-w s g sb gb m new parent_loaded None new.orphan made made_in tb) i)
        (λ a. (ap (tabulate (λ t. range_loaded a (loaded_at N U t))) em ∙ column-changed N W long-w s g sb gb m new (range_loaded a) (block 0 0) (new.bare a) made made_in tb) i) in
        let lists = change_arenas nodes (λ a. arena_of (entries_of d.limits a) (min (used-same made free a i) (entries_of d.limits a)) (arena_part d a mem)) in
        change_fits (change_order lists (order-filled N W long-w s g sb gb m new i) false) (counts-filled made free made_in fb i) lengths)

  -- a new slot
  module _ (e : s ≡ slots_made d) (eg : g ≡ 0) where
    pub decode-made : decode_with p names lengths (with_slots d (slots_made d + 1) 0) (put_slots (filled_words d.limits.nodes (slots_part d mem) s g m) mem)
        ≡ born_from [] (decode_with p names lengths d mem) (kind_of m.«data») p names
    decode-made =
        let made = slots_made d in
        let mb : made + 1 ≤ N = omega arith in
        let em : min (made + 1) N ≡ made + 1 = min-eq_left mb in
        let ef : min 0 N ≡ 0 = min-eq_left (omega arith) in
        decode-put_slots d mem U ok size-u p names lengths (slot_counts d.counts (made + 1) 0) false
        ∙ (λ i.
        let slots =
        change_slots D
        ((ap (tabulate (generation_at N U)) em
        ∙ tabulate-more (generation_at N U) (generation_at N W) made 0 (λ t k. generation-other N W long-w s g sb gb m new t (omega arith) (λ x. omega arith))
        (ap (generation_at N U) (sym e) ∙ generation-here N W long-w s g sb gb m new ∙ eg)) i)
        (ap (λ (k : ℕ). reverse (tabulate (free_at N U) k)) ef i) in
        let nodes =
        change_nodes slots
        ((ap (tabulate (λ t. kind_loaded (loaded_at N U t))) em ∙ column-more N W long-w s g sb gb m new kind_loaded (Some (kind_of m.«data»)) refl made e) i)
        ((ap (tabulate (λ t. parent_loaded (loaded_at N U t))) em ∙ column-more N W long-w s g sb gb m new parent_loaded None new.orphan made e) i)
        (λ a. (ap (tabulate (λ t. range_loaded a (loaded_at N U t))) em ∙ column-more N W long-w s g sb gb m new (range_loaded a) (block 0 0) (new.bare a) made e) i) in
        let lists = change_arenas nodes (λ a. arena_of (entries_of d.limits a) (min (used-same (made + 1) 0 a i) (entries_of d.limits a)) (arena_part d a mem)) in
        let order = (order-filled N W long-w s g sb gb m new ∙ ap (λ (k : ℕ). set D.order k no_position) (e ∙ sym (length-tabulate (generation_at N W) made))) i in
        change_fits (change_order lists order false) (counts-filled (made + 1) 0 mb (omega arith) i) lengths)
