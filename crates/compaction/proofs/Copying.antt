-- A list copied and its owner's range renewed: what the memory is then, and that one such step follows another.
-- Assumes nothing.
use Rattle.std.specs.Prelude.{Option, None, Some}
use mathlib.Core.Path.{◌≡◌, refl, sym, ap, ◌∙◌, subst}
use mathlib.Core.Bool.{Bool, true, false, cond, true≢false}
use mathlib.Core.List.{List}
use Prim.Native.Nat.{ℕ, ◌+◌, ◌*◌, ◌≤◌, ◌<◌}
use native.Mathlib.Omega.{arith}
use lib.ListN.{length, set, take, drop}
use Rattle.words.specs.Parts.{part}
use Rattle.words.proofs.Parts.{length_part}
use Rattle.blocks.specs.Arena.{Block, block, arena_of, list_of, laid}
use Rattle.blocks.specs.Compact.{copied}
use Rattle.slots.specs.Regions.{put_record}
use Rattle.records.specs.declared.Range.{Range}
use Rattle.records.specs.declared.Node.{Node}
use Rattle.records.specs.declared.NodeRecord.{NodeRecord}
use Rattle.slots.proofs.Regions.{length-put_record}
use Rattle.model.specs.Kinds.{Which, children, attributes, namespaces, same_which}
use Rattle.model.specs.Doc.{Doc, live_slot, kind_in, range_in, list_in}
use Rattle.model.specs.Rules.{has_range}
use Rattle.model.specs.Edits.{Laying, update_which, lay_list}
use Rattle.layout.specs.declared.Document.{Document}
use Rattle.layout.specs.Layout.{limits_of, entries_of, document_words, memory_ok}
use Rattle.memory.specs.Decode.{kind_of, block_of, loaded_at, slots_part, arena_part, slots_made, arena_used, arena_in, document_of, pool_in, names_in, lengths_add, decode}
use Rattle.memory.specs.Writing.{put_range, set_range, ArenaCopied}
use Rattle.layout.proofs.Sizes.{sizes}
use Rattle.memory.proofs.Columns.{live_made, live-none, kind-found}
use Rattle.memory.proofs.Shaped.{length-slots_part, length_ids}
use Rattle.memory.proofs.Written.{same_which-true, length-put_slots, arena_part-put_slots, length-put_arena, slots_part-put_arena, arena_part-put_arena, arena_part-put_arena-other, memory_kept}
use Rattle.memory.proofs.Past.{slots-past, arena-past}
use Rattle.memory.proofs.Kept.{TextsKept, decode-kept, put_arena-texts}
use Rattle.memory.proofs.Promises.{range-promise}
use Rattle.compaction.specs.declared.copy.Lengths.{Lengths}
use Rattle.compaction.specs.Copies.{length_of, with_length, with_blocks, copies_in, Copies, Layable, list_laid}

-- ---- one of three changed

pub each : {A : Type 0} (P : Which → A → Type 0) (w : Which) (a : Which → A) (x : A) → P w x → ((v : Which) → same_which v w ≡ false → P v (a v)) → (v : Which) → P v (update_which a w x v)
each {A} P w a x here other v = go (same_which v w) refl
  where
    go : (t : Bool) → same_which v w ≡ t → P v (cond t x (a v))
    go true e = subst (λ (u : Which). P u x) (sym (same_which-true v w e)) here
    go false e = other v e

pub length-here : (u : Lengths) (w : Which) (n : ℕ) → length_of (with_length u w n) w ≡ n
length-here u children n = refl
length-here u attributes n = refl
length-here u namespaces n = refl

pub length-other : (u : Lengths) (w : Which) (n : ℕ) (v : Which) → same_which v w ≡ false → length_of (with_length u w n) v ≡ length_of u v
length-other u children n children e = absurd (true≢false e)
length-other u children n attributes e = refl
length-other u children n namespaces e = refl
length-other u attributes n children e = refl
length-other u attributes n attributes e = absurd (true≢false e)
length-other u attributes n namespaces e = refl
length-other u namespaces n children e = refl
length-other u namespaces n attributes e = refl
length-other u namespaces n namespaces e = absurd (true≢false e)

-- ---- the words of a slot

module _ (d : Document) (mem : List ℕ) (ok : memory_ok d (length mem) ≡ true) where
  words_size : (s : ℕ) → s < d.limits.nodes → (r : NodeRecord) → length (put_record d.limits.nodes (slots_part d mem) s r) ≡ 15 * d.limits.nodes
  words_size s b r = length-put_record d.limits.nodes (slots_part d mem) (omega (arith, length-slots_part d mem ok)) s r b ∙ length-slots_part d mem ok

-- ---- the node in a live slot

pub record NodeIn (d : Document) (mem : List ℕ) (s : ℕ) : Type 0 where
  pub node : Node
  pub loaded : loaded_at d.limits.nodes (slots_part d mem) s ≡ Some node
  pub kind : kind_in (decode d mem) s ≡ kind_of node.«data»

pub node_in : (d : Document) (mem : List ℕ) (s : ℕ) → live_slot (decode d mem) s ≡ true → NodeIn d mem s
node_in d mem s l = go (loaded_at d.limits.nodes (slots_part d mem) s) refl
  where
    made : s < slots_made d
    made = live_made (pool_in d mem) (names_in d mem) (lengths_add d mem) d mem s l

    go : (x : Option Node) → loaded_at d.limits.nodes (slots_part d mem) s ≡ x → NodeIn d mem s
    go (Some m) e = record { node = m; loaded = e; kind = kind-found (pool_in d mem) (names_in d mem) (lengths_add d mem) d mem s made m e }
    go None e = absurd (true≢false (sym l ∙ live-none (pool_in d mem) (names_in d mem) (lengths_add d mem) d mem s made e))

-- ---- one list

module _ (d : Document) (mem : List ℕ) (w : Which) (s : ℕ) (used : Lengths) (L : Layable d mem w s (length_of used w)) where
  abbrev E : ℕ
  E = entries_of d.limits w

  abbrev D : Doc
  D = decode d mem

  pub slot-made : s < slots_made d
  slot-made = live_made (pool_in d mem) (names_in d mem) (lengths_add d mem) d mem s L.live

  pub slot-in : s < d.limits.nodes
  slot-in = omega (arith, slot-made)

  pub narrow : entries_of d.limits w ≤ 262144
  narrow = let z = sizes d (length mem) L.memory in z.entries w

  module _ (r : Range) (block-is : block_of r ≡ range_in (decode d mem) w s) where
    start_is : r.start ≡ (range_in (decode d mem) w s).start
    start_is = ap (λ (b : Block). b.start) block-is

    len_is : r.len ≡ (range_in (decode d mem) w s).len
    len_is = ap (λ (b : Block). b.len) block-is

    pub block-inside : r.start + r.len ≤ entries_of d.limits w
    block-inside = omega (arith, start_is, len_is, L.inside)

    pub block_room : length_of used w + r.len ≤ entries_of d.limits w
    block_room = omega (arith, len_is, L.room)

    list-is : list_in (decode d mem) w s ≡ part r.start r.len (take (entries_of d.limits w) (arena_part d w mem))
    list-is = ap (list_of (arena_in d w mem)) (sym block-is)

    list_length : length (list_in (decode d mem) w s) ≡ r.len
    list_length = ap length list-is ∙ length_part (arena_in d w mem).ids r.start r.len (omega (arith, block-inside, length_ids d mem L.memory w))

    module _ (start : ℕ) (es : start ≡ length_of used w) (mem₁ : List ℕ) (C : ArenaCopied d mem mem₁ w start r.start r.len) where
      arena-size : length mem₁ ≡ length mem
      arena-size = ap length C.memory ∙ length-put_arena d mem C.words L.memory w C.long

      arena-ok : memory_ok d (length mem₁) ≡ true
      arena-ok = memory_kept d mem mem₁ arena-size L.memory

      slots_same : slots_part d mem₁ ≡ slots_part d mem
      slots_same = ap (slots_part d) C.memory ∙ slots_part-put_arena d mem C.words L.memory w C.long

      part-here : arena_part d w mem₁ ≡ C.words
      part-here = ap (arena_part d w) C.memory ∙ arena_part-put_arena d mem C.words L.memory w C.long

      part-other : (v : Which) → same_which v w ≡ false → arena_part d v mem₁ ≡ arena_part d v mem
      part-other v ne = ap (arena_part d v) C.memory ∙ arena_part-put_arena-other d mem C.words L.memory w C.long v ne

      document-copied : decode d mem₁ ≡ with_blocks (decode d mem) (decode d mem).ranges (λ v. arena_in d v mem₁)
      document-copied =
          decode-kept d mem mem₁
          (subst (λ (m : List ℕ). TextsKept d mem m) (sym C.memory)
          (put_arena-texts d mem C.words w C.long (let z = sizes d (length mem) L.memory in omega (arith, z.arena w))))
          ∙ (λ i. document_of (pool_in d mem) (names_in d mem) (lengths_add d mem) d (slots_same i) (λ a. arena_part d a mem₁))

      module _ (mem₂ : List ℕ) (e₂ : mem₂ ≡ put_range d mem₁ s w (record { start = start; len = r.len })) where
        abbrev range : Range
        range = record { start = start; len = r.len }

        words_are : (v : NodeRecord) → length (put_record d.limits.nodes (slots_part d mem₁) s v) ≡ 15 * d.limits.nodes
        words_are v = words_size d mem₁ arena-ok s slot-in v

        range_size : length mem₂ ≡ length mem
        unfolding put_range
        range_size = ap length e₂ ∙ length-put_slots d mem₁ _ arena-ok (words_are _) ∙ arena-size

        range-past : drop (document_words (limits_of d.limits)) mem₂ ≡ drop (document_words (limits_of d.limits)) mem
        unfolding put_range
        range-past =
            ap (drop (document_words (limits_of d.limits))) e₂
            ∙ slots-past d mem₁ arena-ok _ (words_are _)
            ∙ ap (drop (document_words (limits_of d.limits))) C.memory
            ∙ (arena-past d mem L.memory w C.words C.long).past

        part_same : (v : Which) → arena_part d v mem₂ ≡ arena_part d v mem₁
        unfolding put_range
        part_same v = ap (arena_part d v) e₂ ∙ arena_part-put_slots d mem₁ _ arena-ok (words_are _) v

        abbrev A : Which → Laying
        A = copies_in d mem used

        abbrev new : Laying
        new = lay_list (copies_in d mem used w) s (list_in (decode d mem) w s)

        document-ranged : decode d mem₂ ≡ set_range (decode d mem₁) w s (block start r.len)
        document-ranged =
            let n = node_in d mem s L.live in
            ap (decode d) e₂
            ∙ range-promise d mem₁ arena-ok s slot-made n.node (ap (λ (x : List ℕ). loaded_at d.limits.nodes x s) slots_same ∙ n.loaded) w range
            (ap (has_range w) (sym n.kind) ∙ L.owner)
            (omega (arith, es, block_room, narrow), omega (arith, block-inside, narrow))

        ranges-are : (v : Which) → update_which (decode d mem).ranges w (set ((decode d mem).ranges w) s (block start r.len)) v ≡ (list_laid (decode d mem) (copies_in d mem used) w s v).ranges
        unfolding copied
        ranges-are v = go (same_which v w)
          where
            here : set ((decode d mem).ranges w) s (block start r.len) ≡ new.ranges
            here = ap (λ (k : ℕ). set ((decode d mem).ranges w) s (block k r.len)) es ∙ ap (λ (k : ℕ). set ((decode d mem).ranges w) s (block (length_of used w) k)) (sym list_length)

            go : (t : Bool) → cond t (set ((decode d mem).ranges w) s (block start r.len)) ((decode d mem).ranges v) ≡ (cond t new (A v)).ranges
            go true = here
            go false = refl

        pub list-laid : Copies d mem mem₂ (with_length used w (start + r.len)) (list_laid (decode d mem) (copies_in d mem used) w s)
        unfolding set_range copied
        list-laid = record {
          size = range_size;
          past = range-past;
          document =
              document-ranged
              ∙ ap (λ (x : Doc). set_range x w s (block start r.len)) document-copied
              ∙ (λ i. with_blocks (decode d mem) (λ v. ranges-are v i) (λ v. arena_of (entries_of d.limits v) (arena_used d v) (sym (part_same v) i)));
          ids = λ v. ap (take (entries_of d.limits v)) (part_same v) ∙ ids-kept v;
          copies = each (λ (v : Which) (l : Laying). copied (entries_of d.limits v) (length_of (with_length used w (start + r.len)) v) (arena_part d v mem₂) ≡ l.arena) w (copies_in d mem used) new copies-here copies-other;
        }
          where
            ids-kept : (v : Which) → take (entries_of d.limits v) (arena_part d v mem₁) ≡ take (entries_of d.limits v) (arena_part d v mem)
            ids-kept v = go (same_which v w) refl
              where
                go : (t : Bool) → same_which v w ≡ t → take (entries_of d.limits v) (arena_part d v mem₁) ≡ take (entries_of d.limits v) (arena_part d v mem)
                go true e =
                    subst (λ (u : Which). take (entries_of d.limits u) (arena_part d u mem₁) ≡ take (entries_of d.limits u) (arena_part d u mem)) (sym (same_which-true v w e))
                    (ap (take E) part-here ∙ C.block.ids)
                go false e = ap (take (entries_of d.limits v)) (part-other v e)

            copies-here : copied E (length_of (with_length used w (start + r.len)) w) (arena_part d w mem₂) ≡ new.arena
            copies-here =
                ap (λ (k : ℕ). copied E k (arena_part d w mem₂)) (length-here used w (start + r.len))
                ∙ ap (copied E (start + r.len)) (part_same w ∙ part-here)
                ∙ C.block.copies
                ∙ ap (λ (k : ℕ). (laid (copied E k (arena_part d w mem)) (part r.start r.len (take E (arena_part d w mem)))).arena) es
                ∙ ap (λ (l : List ℕ). (laid (copied E (length_of used w) (arena_part d w mem)) l).arena) (sym list-is)

            copies-other : (v : Which) → same_which v w ≡ false → copied (entries_of d.limits v) (length_of (with_length used w (start + r.len)) v) (arena_part d v mem₂) ≡ (A v).arena
            copies-other v ne =
                ap (λ (k : ℕ). copied (entries_of d.limits v) k (arena_part d v mem₂)) (length-other used w (start + r.len) v ne)
                ∙ ap (copied (entries_of d.limits v) (length_of used v)) (part_same v ∙ part-other v ne)

        pub laid-with : (used' : Lengths) → used' ≡ with_length used w (start + r.len) → Copies d mem mem₂ used' (list_laid (decode d mem) (copies_in d mem used) w s)
        laid-with used' q = subst (λ (u : Lengths). Copies d mem mem₂ u (list_laid (decode d mem) (copies_in d mem used) w s)) (sym q) list-laid
