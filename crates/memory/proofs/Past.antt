-- A write to the slots or to an arena keeps the buffer's length and the words past document memory.
-- Assumes nothing.
use mathlib.Core.Path.{◌≡◌, ap, ◌∙◌}
use mathlib.Core.Bool.{true}
use mathlib.Core.List.{List}
use Prim.Native.Nat.{ℕ, ◌+◌, ◌*◌, ◌≤◌, ◌<◌}
use native.Mathlib.Omega.{arith}
use lib.ListN.{length, drop}
use Rattle.words.proofs.Parts.{drop-put-after}
use Rattle.blocks.specs.Arena.{Edit, arena_words}
use Rattle.slots.specs.Regions.{slots_words, put_record}
use Rattle.records.specs.declared.NodeRecord.{NodeRecord}
use Rattle.slots.proofs.Regions.{length-put_record}
use Rattle.model.specs.Kinds.{Which, children}
use Rattle.layout.specs.declared.Document.{Document}
use Rattle.layout.specs.Layout.{limits_of, entries_of, arena_at, document_words, memory_ok}
use Rattle.memory.specs.Decode.{slots_part}
use Rattle.memory.specs.Writing.{put_slots, put_arena, put_words, put_range}
use Rattle.memory.specs.Entries.{put_block}
use Rattle.layout.proofs.Sizes.{sizes, arena-behind-slots, arena-inside, names-next, words-next}
use Rattle.memory.proofs.Shaped.{length-slots_part}
use Rattle.memory.proofs.Written.{length-put_arena}
use Rattle.memory.proofs.Steps.{length-put_words}

-- the length and the words past document memory are as they were
pub record PastKept (d : Document) (mem mem' : List ℕ) : Type 0 where
  pub size : length mem' ≡ length mem
  pub past : drop (document_words (limits_of d.limits)) mem' ≡ drop (document_words (limits_of d.limits)) mem

module _ (d : Document) (mem : List ℕ) (ok : memory_ok d (length mem) ≡ true) where
  -- the words of the slots
  pub slots-past : (words : List ℕ) → length words ≡ 15 * d.limits.nodes → drop (document_words (limits_of d.limits)) (put_slots words mem) ≡ drop (document_words (limits_of d.limits)) mem
  unfolding put_slots
  slots-past words size =
      let l = limits_of d.limits in
      drop-put-after mem 0 words (document_words l) (omega arith) (omega (arith, arena-behind-slots l children, arena-inside l children, names-next l, words-next l))

  -- the words of one slot
  pub words-past : (s : ℕ) → s < d.limits.nodes → (r : NodeRecord) → PastKept d mem (put_words d mem s r)
  words-past s b r =
      let n = d.limits.nodes in
      let w = slots_part d mem in
      let long : slots_words n ≤ length w = omega (arith, length-slots_part d mem ok) in
      record {
        size = length-put_words d mem ok s b r;
        past = slots-past (put_record n w s r) (length-put_record n w long s r b ∙ length-slots_part d mem ok);
      }

  -- the words of an arena
  module _ (w : Which) (words : List ℕ) (size : length words ≡ entries_of d.limits w + entries_of d.limits w) where
    pub arena-past : PastKept d mem (put_arena d w words mem)
    unfolding put_arena
    arena-past =
        let l = limits_of d.limits in
        let z = sizes d (length mem) ok in
        record {
          size = length-put_arena d mem words ok w size;
          past = drop-put-after mem (arena_at l w) words (document_words l) (omega (arith, z.arena w)) (omega (arith, arena-inside l w, names-next l, words-next l));
        }

-- a block edited: the arena's words, then the owner's range
pub block-past : (d : Document) (mem : List ℕ) → memory_ok d (length mem) ≡ true → (w : Which) (s : ℕ) → s < d.limits.nodes
    → (e : Edit) → length (arena_words e.arena) ≡ entries_of d.limits w + entries_of d.limits w → PastKept d mem (put_block d mem w s e)
unfolding put_block put_range
block-past d mem ok w s b e size =
    let mem₁ = put_arena d w (arena_words e.arena) mem in
    let k = arena-past d mem ok w (arena_words e.arena) size in
    let j = words-past d mem₁ (ap (memory_ok d) k.size ∙ ok) s b _ in
    record { size = j.size ∙ k.size; past = j.past ∙ k.past }
