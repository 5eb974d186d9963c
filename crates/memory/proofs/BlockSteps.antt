-- The steps of an edit of a node's block, over plain values.
-- Assumes nothing.
use mathlib.Core.Path.{◌≡◌, refl, sym, ap, ◌∙◌}
use mathlib.Core.Bool.{true, false≢true}
use mathlib.Core.List.{List}
use Prim.Native.Nat.{ℕ, ◌+◌, ◌≤◌, ◌<◌}
use native.Mathlib.Omega.{arith}
use native.Mathlib.Decide.{dec_lt}
use lib.ListN.{length}
use Rattle.words.proofs.Tests.{and_right}
use Rattle.blocks.specs.Arena.{Arena, arena_words, cap_of, has_room, inserted, removed}
use Rattle.blocks.specs.Answer.{insert_answer, insert_words}
use Rattle.blocks.specs.Held.{Held}
use Rattle.blocks.specs.Rule.{Shaped, Inside}
use Rattle.std.specs.Prelude.{Option, Some, IsSome, None}
use Rattle.std.proofs.lemmas.Option.{same_Some}
use Rattle.blocks.specs.declared.Inserted.{Inserted}
use Rattle.blocks.proofs.Answers.{answer-room, words-room}
use Rattle.blocks.proofs.Capacities.{capacity-least}
use Rattle.blocks.proofs.Decoded.{after-length, after-removal-length}
use Rattle.blocks.proofs.Edits.{inserted-len, inserted-in-place, inserted-moved, removed-start, removed-used}
use Rattle.blocks.proofs.Halves.{shaped-held, inside-held}
use Rattle.blocks.proofs.Removal.{removed-inside}
use Rattle.records.specs.Fields.{RangeFits}
use Rattle.records.specs.declared.Range.{Range}
use Rattle.records.specs.declared.Node.{Node}
use Rattle.model.specs.Kinds.{Which}
use Rattle.model.specs.Doc.{even, is_some, range_in}
use Rattle.model.specs.Rules.{has_range}
use Rattle.slots.specs.Regions.{generation_at}
use Rattle.layout.specs.declared.Document.{Document}
use Rattle.layout.specs.Layout.{entries_of, memory_ok}
use Rattle.memory.specs.Decode.{kind_of, block_of, kind_loaded, range_loaded, loaded_at, slots_part, arena_part, slots_made, arena_used, arena_in, pool_in, names_in, lengths_add, decode}
use Rattle.memory.specs.Writing.{put_arena, put_range}
use Rattle.memory.specs.Entries.{BlockHeld, insertion, removal, range_from, put_block}
use Rattle.layout.proofs.Sizes.{sizes}
use Rattle.memory.proofs.Columns.{live_made, live-in, range-in, kind-found}
use Rattle.memory.proofs.Shaped.{length-arena_part}
use Rattle.memory.proofs.Written.{length-put_arena}

module _ (d : Document) (mem : List ℕ) (w : Which) (s : ℕ) (h : BlockHeld d mem w s) where
  abbrev L : Option Node
  L = loaded_at d.limits.nodes (slots_part d mem) s

  pub slot-made : s < slots_made d
  slot-made = live_made (pool_in d mem) (names_in d mem) (lengths_add d mem) d mem s h.live

  pub slot-in : s < d.limits.nodes
  slot-in = omega (arith, slot-made)

  pub block-in : range_in (decode d mem) w s ≡ range_loaded w (loaded_at d.limits.nodes (slots_part d mem) s)
  block-in = range-in (pool_in d mem) (names_in d mem) (lengths_add d mem) d mem s slot-made w

  -- the owner, a node that has such a block
  pub record Owner : Type 0 where
    pub node : Node
    pub loaded : loaded_at d.limits.nodes (slots_part d mem) s ≡ Some node
    pub has : has_range w (kind_of node.«data») ≡ true

  pub owner : Owner
  owner = go L refl
    where
      some-kind : is_some (kind_loaded L) ≡ true
      some-kind =
          and_right (even (generation_at d.limits.nodes (slots_part d mem) s)) (is_some (kind_loaded L))
          (sym (live-in (pool_in d mem) (names_in d mem) (lengths_add d mem) d mem s slot-made) ∙ h.live)

      go : (l : Option Node) → L ≡ l → Owner
      go (Some m) e = record {
        node = m;
        loaded = e;
        has =
            ap (has_range w) (sym (kind-found (pool_in d mem) (names_in d mem) (lengths_add d mem) d mem s slot-made m e)) ∙ h.owner;
      }
      go None e = absurd (false≢true (ap (λ (l : Option Node). is_some (kind_loaded l)) (sym e) ∙ some-kind))

  -- ---- what the block editor asks, for the block as the code has it
  module _ (b : Range) (eb : block_of b ≡ range_loaded w (loaded_at d.limits.nodes (slots_part d mem) s)) where
    block-is : range_in (decode d mem) w s ≡ block_of b
    block-is = block-in ∙ sym eb

    pub block_held : Held (arena_part d w mem) (entries_of d.limits w) (arena_used d w) b.start b.len
    block_held = record { twice = length-arena_part d mem h.memory w; fits = omega arith; inside = below }
      where
        inside-here : Inside (arena_in d w mem) (block_of b)
        inside-here = rw block-is at h.inside

        below : b.start + cap_of (arena_in d w mem) (block_of b) ≤ arena_used d w
        below = inside-here.below

    abbrev A : Arena
    A = arena_in d w mem

    shaped : Shaped A
    shaped = shaped-held (arena_part d w mem) (entries_of d.limits w) (arena_used d w) b.start b.len block_held

    inside : Inside A (block_of b)
    inside = inside-held (arena_part d w mem) (entries_of d.limits w) (arena_used d w) b.start b.len block_held

    entries-narrow : entries_of d.limits w ≤ 262144
    entries-narrow =
        let z = sizes d (length mem) h.memory in
        z.entries w

    block-narrow : b.start + b.len ≤ entries_of d.limits w
    block-narrow = omega (arith, inside.below, capacity-least A.caps (block_of b), block_held.fits)

    -- ---- an insertion for which there is room
    module _ (room : has_room ((decode d mem).arenas w) (range_in (decode d mem) w s) ≡ true) (k id : ℕ) where
      has-room : has_room A (block_of b) ≡ true
      has-room = rw block-is at room

      insertion-is : insertion d mem w s k id ≡ inserted A (block_of b) k id
      unfolding insertion
      insertion-is = rw block-is

      -- where the block then is
      pub record Landed (start len used : ℕ) : Type 0 where
        pub start_is : start ≡ (insertion d mem w s k id).block.start
        pub len_is : len ≡ (insertion d mem w s k id).block.len
        pub used-is : used ≡ (insertion d mem w s k id).arena.used
        pub start-narrow : start < 4294967296
        pub len-narrow : len < 4294967296

      start_fits : (inserted A (block_of b) k id).block.start ≤ entries_of d.limits w
      start_fits = go (dec_lt b.len (cap_of A (block_of b)))
        where
          go : Dec (b.len < cap_of A (block_of b)) → (inserted A (block_of b) k id).block.start ≤ entries_of d.limits w
          go (yes q) = rw (inserted-in-place A (block_of b) k id q) (omega (arith, block-narrow))
          go (no q) = rw (inserted-moved A (block_of b) k id (omega arith)) (omega arith)

      module _ (r : Option Inserted) (e : r ≡ insert_answer (arena_in d w mem) (block_of b) k id) where
        pub landed : (x : Inserted) → r ≡ Some x → Landed x.block.start x.block.len x.used
        landed x q =
            let a = answer-room (arena_part d w mem) A (block_of b) k id has-room in
            let s = same_Some x _ (sym q ∙ e ∙ a) in
            let es : x.block.start ≡ (inserted A (block_of b) k id).block.start = ap (λ (y : Inserted). y.block.start) s in
            let el : x.block.len ≡ (inserted A (block_of b) k id).block.len = ap (λ (y : Inserted). y.block.len) s in
            let eu : x.used ≡ (inserted A (block_of b) k id).arena.used = ap (λ (y : Inserted). y.used) s in
            record {
              start_is = rw insertion-is es;
              len_is = rw insertion-is el;
              used-is = rw insertion-is eu;
              start-narrow = omega (arith, es, start_fits, entries-narrow);
              len-narrow = omega (arith, el, inserted-len A (block_of b) k id, block-narrow, entries-narrow);
            }

        pub inserts : IsSome r
        inserts = rw (e, answer-room (arena_part d w mem) A (block_of b) k id has-room)

      module _ (mem₁ : List ℕ) (e₁ : mem₁ ≡ put_arena d w (insert_words (arena_part d w mem) (arena_in d w mem) (block_of b) k id) mem) where
        pub inserted-memory : memory_ok d (length mem₁) ≡ true
        inserted-memory =
            ap (λ (m : List ℕ). memory_ok d (length m)) e₁
            ∙ ap (memory_ok d) (length-put_arena d mem (insert_words (arena_part d w mem) A (block_of b) k id) h.memory w
            (after-length (arena_part d w mem) (entries_of d.limits w) (arena_used d w) b.start b.len block_held k id))
            ∙ h.memory

        pub inserted-block : (start len used : ℕ) → Landed start len used → (mem₂ : List ℕ)
            → mem₂ ≡ put_range d mem₁ s w (record { start = start; len = len }) → mem₂ ≡ put_block d mem w s (insertion d mem w s k id)
        unfolding put_block
        inserted-block start len used l mem₂ e₂ =
            e₂
            ∙ rw (e₁, words-room (arena_part d w mem) A (block_of b) k id has-room, ← insertion-is, l.start_is, l.len_is)

    -- ---- a removal
    module _ (id : ℕ) where
      removal-is : removal d mem w s id ≡ removed A (block_of b) id
      unfolding removal
      removal-is = rw block-is

      pub dropped-narrow : (r : ℕ) → r ≡ (removed (arena_in d w mem) (block_of b) id).block.len → r < 4294967296
      dropped-narrow r e =
          let i = removed-inside A (block_of b) shaped inside id in
          omega (arith, e, i.below, capacity-least (removed A (block_of b) id).arena.caps (removed A (block_of b) id).block, removed-used A (block_of b) id, entries-narrow, block_held.fits)

      -- the block left has numbers of 32 bits
      pub dropped-fits : RangeFits (range_from (removed (arena_in d w mem) (block_of b) id).block)
      dropped-fits =
          (omega (arith, removed-start A (block_of b) id, block-narrow, entries-narrow), dropped-narrow (removed A (block_of b) id).block.len refl)

      module _ (mem₁ : List ℕ) (e₁ : mem₁ ≡ put_arena d w (arena_words (removed (arena_in d w mem) (block_of b) id).arena) mem) where
        pub dropped-memory : memory_ok d (length mem₁) ≡ true
        dropped-memory =
            ap (λ (m : List ℕ). memory_ok d (length m)) e₁
            ∙ ap (memory_ok d) (length-put_arena d mem (arena_words (removed A (block_of b) id).arena) h.memory w
            (after-removal-length (arena_part d w mem) (entries_of d.limits w) (arena_used d w) b.start b.len block_held id))
            ∙ h.memory

        pub dropped-block : (r : ℕ) → r ≡ (removed (arena_in d w mem) (block_of b) id).block.len → (mem₂ : List ℕ)
            → mem₂ ≡ put_range d mem₁ s w (record { start = b.start; len = r }) → mem₂ ≡ put_block d mem w s (removal d mem w s id)
        unfolding put_block
        dropped-block r e mem₂ e₂ =
            let R = removed A (block_of b) id in
            e₂
            ∙ rw (e₁, removal-is, e)
            (ap (λ (k : ℕ). put_range d (put_arena d w (arena_words R.arena) mem) s w (record { start = k; len = R.block.len })) (sym (removed-start A (block_of b) id)))

-- ---- the record, by the code's name of the arena
