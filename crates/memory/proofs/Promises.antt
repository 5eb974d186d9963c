-- What the writing steps promise: each is one change of the decoded document.
-- Assumes nothing.
use Rattle.records.specs.declared.NodeId.{NodeId}
use Rattle.std.specs.Prelude.{Option, Some}
use mathlib.Core.Path.{◌≡◌, refl, sym, ap, ◌∙◌}
use mathlib.Core.Bool.{true}
use mathlib.Core.List.{List}
use Prim.Native.Nat.{ℕ, ◌+◌, ◌≤◌, ◌<◌}
use native.Mathlib.Omega.{arith}
use native.Mathlib.Nat.{min-eq_left}
use lib.ListN.{length}
use Rattle.blocks.specs.Arena.{Arena, Edit, arena_of, arena_words, has_room, inserted, removed}
use Rattle.blocks.specs.Held.{Held}
use Rattle.blocks.proofs.Answers.{answer-room, words-room}
use Rattle.blocks.proofs.Decoded.{decoded-inserted, decoded-removed, after-length, after-removal-length}
use Rattle.blocks.proofs.Edits.{inserted-used, room-then, removed-used}
use Rattle.records.specs.Fields.{RangeFits, ParentFits, NodeFits}
use Rattle.records.specs.Handles.{handle_index}
use Rattle.slots.specs.Regions.{slots_words, generation_at, put_record}
use Rattle.records.specs.declared.Range.{Range}
use Rattle.records.specs.declared.Node.{Node}
use Rattle.records.specs.declared.NodeRecord.{NodeRecord}
use Rattle.slots.proofs.Regions.{length-put_record}
use Rattle.model.specs.Kinds as kinds
use Rattle.model.specs.Kinds.{Which}
use Rattle.model.specs.Doc.{live_slot, kind_in, kind_at, range_in}
use Rattle.model.specs.Rules.{has_range, Rules}
use Rattle.model.specs.Edits.{set_parent, set_block, link, unlink_from}
use Rattle.layout.specs.declared.Document.{Document}
use Rattle.layout.specs.Layout.{limits_of, entries_of, memory_ok}
use Rattle.memory.specs.Decode.{kind_of, handle_of, block_of, range_of, loaded_at, slots_part, arena_part, slots_made, arena_used, pool_in, names_in, lengths_add, decode}
use Rattle.layout.specs.Record.{used_of, outdated, with_used}
use Rattle.memory.specs.Writing.{put_arena, put_words, put_node, put_range, put_parent, set_node, set_range}
use Rattle.memory.specs.Entries.{BlockHeld, insertion, removal, range_from, put_block}
use Rattle.layout.proofs.Sizes.{sizes}
use Rattle.memory.proofs.Counted.{counts-fit}
use Rattle.memory.proofs.Shaped.{length-slots_part, length_ids}
use Rattle.memory.proofs.Written.{length-put_arena}
use Rattle.memory.proofs.Kept.{TextsKept, kept_again, decode-kept, put_slots-texts, put_arena-texts}
use Rattle.memory.proofs.Steps as steps
use Rattle.memory.proofs.BlockSteps.{slot-made, slot-in, block-in, block_held, owner, landed, dropped-fits}
use Rattle.memory.proofs.Linked.{EditFits, decode-put_block}

-- ---- the words of one slot keep texts and names

words-texts : (d : Document) (mem : List ℕ) → memory_ok d (length mem) ≡ true → (s : ℕ) → s < d.limits.nodes → (r : NodeRecord) → TextsKept d mem (put_words d mem s r)
words-texts d mem ok s b r =
    let n = d.limits.nodes in
    let w = slots_part d mem in
    let long : slots_words n ≤ length w = omega (arith, length-slots_part d mem ok) in
    put_slots-texts d mem (put_record n w s r) (length-put_record n w long s r b ∙ length-slots_part d mem ok)

module _ (d : Document) (mem : List ℕ) (ok : memory_ok d (length mem) ≡ true) (s : ℕ) (h : s < slots_made d) where
  bound : s < d.limits.nodes
  bound = omega arith

  -- another node in a slot whose generation is of 32 bits
  pub node-promise : (m : Node) → NodeFits m → generation_at d.limits.nodes (slots_part d mem) s < 4294967296
      → decode d (put_node d mem s m) ≡ set_node (decode d mem) s (Some (kind_of m.«data»)) (handle_of m.parent) (λ a. range_of a m)
  unfolding put_node
  node-promise m f g =
      decode-kept d mem (put_node d mem s m) (words-texts d mem ok s bound _)
      ∙ steps.decode-put_node (pool_in d mem) (names_in d mem) (lengths_add d mem) d mem ok s h m f g

  module _ (m : Node) (e : loaded_at d.limits.nodes (slots_part d mem) s ≡ Some m) where
    -- the node that was there, with another parent
    pub parent-promise : (q : Option NodeId) → ParentFits q → (id : ℕ) → handle_index id ≡ s
        → decode (outdated d) (put_parent d mem s q) ≡ set_parent (decode d mem) id (handle_of q)
    unfolding put_parent lengths_add
    parent-promise q f id j =
        let k = words-texts d mem ok s bound _ in
        decode-kept (outdated d) mem (put_parent d mem s q) (record { texts = k.texts; names = k.names })
        ∙ steps.decode-put_parent (pool_in d mem) (names_in d mem) (lengths_add d mem) d mem ok s h m e q f id j

    -- and with another range
    pub range-promise : (a : Which) (c : Range) → has_range a (kind_of m.«data») ≡ true → RangeFits c
        → decode d (put_range d mem s a c) ≡ set_range (decode d mem) a s (block_of c)
    unfolding put_range
    range-promise a c k f =
        decode-kept d mem (put_range d mem s a c) (words-texts d mem ok s bound _)
        ∙ steps.decode-put_range (pool_in d mem) (names_in d mem) (lengths_add d mem) d mem ok s h m e a c k f

-- ---- a block edited

block-texts : (d : Document) (mem : List ℕ) → memory_ok d (length mem) ≡ true → (w : Which) (s : ℕ) → s < d.limits.nodes
    → (e : Edit) → length (arena_words e.arena) ≡ entries_of d.limits w + entries_of d.limits w → TextsKept d mem (put_block d mem w s e)
unfolding put_block put_range
block-texts d mem ok w s b e size =
    let z = sizes d (length mem) ok in
    let mem₁ = put_arena d w (arena_words e.arena) mem in
    kept_again (put_arena-texts d mem (arena_words e.arena) w size (omega (arith, z.arena w)))
    (words-texts d mem₁ (ap (memory_ok d) (length-put_arena d mem (arena_words e.arena) ok w size) ∙ ok) s b _)

module _ (d : Document) (mem : List ℕ) (w : Which) (s : ℕ) (h : BlockHeld d mem w s) where
  abbrev E : ℕ
  E = entries_of d.limits w

  abbrev b : Range
  b = range_from (range_in (decode d mem) w s)

  abbrev A : Arena
  A = (decode d mem).arenas w

  held : Held (arena_part d w mem) E (arena_used d w) b.start b.len
  held = block_held d mem w s h b (block-in d mem w s h)

  edit-promise : (e : Edit) → EditFits (entries_of d.limits w) e → decode (with_used d w e.arena.used) (put_block d mem w s e) ≡ set_block (decode d mem) w s e
  unfolding with_used lengths_add
  edit-promise e f =
      let o = owner d mem w s h in
      let k = block-texts d mem h.memory w s (slot-in d mem w s h) e f.long in
      decode-kept (with_used d w e.arena.used) mem (put_block d mem w s e) (record { texts = k.texts; names = k.names })
      ∙ decode-put_block (pool_in d mem) (names_in d mem) (lengths_add d mem) d mem h.memory h.counts w s (slot-made d mem w s h) o.node o.loaded o.has e f

  -- ---- an insertion, where there is room
  module _ (room : has_room ((decode d mem).arenas w) (range_in (decode d mem) w s) ≡ true) (k id : ℕ) where
    insertion-fits : EditFits (entries_of d.limits w) (insertion d mem w s k id)
    unfolding insertion
    insertion-fits =
        let q = words-room (arena_part d w mem) A (block_of b) k id room in
        let l = landed d mem w s h b (block-in d mem w s h) room k id _ refl _ (answer-room (arena_part d w mem) A (block_of b) k id room) in
        record {
          long = ap length (sym q) ∙ after-length (arena_part d w mem) E (arena_used d w) b.start b.len held k id;
          arena =
              ap (arena_of E (inserted A (block_of b) k id).arena.used) (sym q)
              ∙ decoded-inserted (arena_part d w mem) E (arena_used d w) b.start b.len held k id room;
          used = omega (arith, inserted-used A (block_of b) k id, room-then A (block_of b) room, length_ids d mem h.memory w);
          fits = (l.start-narrow, l.len-narrow);
        }

    -- insert_entry: the id is linked under the owner
    pub link-promise : (p : ℕ) → handle_index p ≡ s
        → decode (with_used d w (insertion d mem w s k id).arena.used) (put_block d mem w s (insertion d mem w s k id)) ≡ link (decode d mem) w p k id
    unfolding insertion link
    link-promise p j = edit-promise (insertion d mem w s k id) insertion-fits ∙ ap (λ (i : ℕ). set_block (decode d mem) w i (inserted A (range_in (decode d mem) w i) k id)) (sym j)

  -- ---- a removal
  module _ (id : ℕ) where
    removal-fits : EditFits (entries_of d.limits w) (removal d mem w s id)
    unfolding removal
    removal-fits =
        record {
          long = after-removal-length (arena_part d w mem) E (arena_used d w) b.start b.len held id;
          arena =
              ap (λ (u : ℕ). arena_of E u (arena_words (removed A (block_of b) id).arena)) (removed-used A (block_of b) id)
              ∙ decoded-removed (arena_part d w mem) E (arena_used d w) b.start b.len held id;
          used = omega (arith, removed-used A (block_of b) id, held.fits);
          fits = dropped-fits d mem w s h b (block-in d mem w s h) id;
        }

    -- the length in use stays, so the record is as before but for the order
    used-stays : with_used d w (removal d mem w s id).arena.used ≡ outdated d
    unfolding with_used removal
    used-stays =
        ap (λ (u : ℕ). with_used d w u) (removed-used A (block_of b) id ∙ min-eq_left ((counts-fit (limits_of d.limits) d.counts h.counts).used w)) ∙ same w
      where
        same : (v : Which) → with_used d v (used_of d.counts v) ≡ outdated d
        same kinds.children = refl
        same kinds.attributes = refl
        same kinds.namespaces = refl

    -- drop_entry: the id is unlinked from its parent
    pub unlink-promise : (p : ℕ) → handle_index p ≡ s → kinds.which_of (kind_at (decode d mem) id) ≡ w
        → decode (outdated d) (put_block d mem w s (removal d mem w s id)) ≡ unlink_from (Some p) (decode d mem) id
    unfolding removal
    unlink-promise p j e =
        ap (λ (x : Document). decode x (put_block d mem w s (removal d mem w s id))) (sym used-stays)
        ∙ edit-promise (removal d mem w s id) removal-fits
        ∙ ap (λ (i : ℕ). set_block (decode d mem) w i (removed A (range_in (decode d mem) w i) id)) (sym j)
        ∙ ap (λ (v : Which). set_block (decode d mem) v (handle_index p) (removed ((decode d mem).arenas v) (range_in (decode d mem) v (handle_index p)) id)) (sym e)

-- what an edit of a block asks follows from the rules
pub rules-held : (d : Document) (mem : List ℕ) (w : Which) (s : ℕ) → memory_ok d (length mem) ≡ true → Rules (decode d mem)
    → live_slot (decode d mem) s ≡ true → has_range w (kind_in (decode d mem) s) ≡ true → BlockHeld d mem w s
rules-held d mem w s ok r l k =
    record {
      memory = ok;
      counts = r.fields.counts;
      live = l;
      owner = k;
      inside = rw l at ((r.blocks w).inside s);
    }
