-- The copies in place of the ids, one arena after another.
-- Assumes nothing.
use mathlib.Core.Path.{◌≡◌, refl, ap, ◌∙◌}
use mathlib.Core.Bool.{true, false}
use mathlib.Core.List.{List}
use Prim.Native.Nat.{ℕ, ◌+◌, ◌≤◌}
use native.Mathlib.Omega.{arith}
use lib.ListN.{length, drop, replicate, length-append, length-replicate}
use Rattle.blocks.specs.Arena.{arena_words}
use Rattle.blocks.specs.Compact.{copied}
use Rattle.blocks.proofs.Copies.{copied-limit}
use Rattle.model.specs.Kinds.{Which, children, attributes, namespaces, same_which}
use Rattle.layout.specs.declared.Document.{Document}
use Rattle.layout.specs.Layout.{limits_of, entries_of, document_words, memory_ok}
use Rattle.memory.specs.Decode.{slots_part, arena_part}
use Rattle.memory.specs.Writing.{put_arena}
use Rattle.layout.proofs.Sizes.{sizes}
use Rattle.memory.proofs.Shaped.{length-arena_part}
use Rattle.memory.proofs.Written.{length-put_arena, slots_part-put_arena, arena_part-put_arena, arena_part-put_arena-other, memory_kept}
use Rattle.memory.proofs.Kept.{TextsKept, kept_again, put_arena-texts}
use Rattle.compaction.specs.declared.copy.Lengths.{Lengths}
use Rattle.compaction.specs.Copies.{length_of, arena_replaced, arenas_replaced}
use Rattle.memory.proofs.Past.{arena-past}

-- the copies over the ids of an arena
pub blocks-replaced : (d : Document) (w : Which) (mem : List ℕ) (used : Lengths) (count : ℕ) → count ≡ length_of used w → (mem' : List ℕ)
    → mem' ≡ put_arena d w (arena_words (copied (entries_of d.limits w) count (arena_part d w mem))) mem → mem' ≡ arena_replaced d w used mem
unfolding arena_replaced
blocks-replaced d w mem used count eu mem' e = e ∙ ap (λ (n : ℕ). put_arena d w (arena_words (copied (entries_of d.limits w) n (arena_part d w mem))) mem) eu

module _ (d : Document) (used : Lengths) (fits : (w : Which) → length_of used w ≤ entries_of d.limits w) where
  -- ---- one arena
  module _ (mem : List ℕ) (ok : memory_ok d (length mem) ≡ true) (w : Which) where
    abbrev words : List ℕ
    words = arena_words (copied (entries_of d.limits w) (length_of used w) (arena_part d w mem))

    words_long : length words ≡ entries_of d.limits w + entries_of d.limits w
    unfolding copied
    words_long =
        let E = entries_of d.limits w in
        length-append (copied E (length_of used w) (arena_part d w mem)).ids (replicate E 0)
        ∙ omega (arith, copied-limit (arena_part d w mem) E (length-arena_part d mem ok w) (length_of used w) (fits w), length-replicate {A = ℕ} E 0)

    -- the memory with its copies over the ids
    pub record OneReplaced (mem' : List ℕ) : Type 0 where
      pub size : length mem' ≡ length mem
      pub past : drop (document_words (limits_of d.limits)) mem' ≡ drop (document_words (limits_of d.limits)) mem
      pub slots : slots_part d mem' ≡ slots_part d mem
      pub texts : TextsKept d mem mem'
      pub here : arena_part d w mem' ≡ arena_words (copied (entries_of d.limits w) (length_of used w) (arena_part d w mem))
      pub other : (v : Which) → same_which v w ≡ false → arena_part d v mem' ≡ arena_part d v mem

    pub one-replaced : OneReplaced (arena_replaced d w used mem)
    unfolding arena_replaced
    one-replaced = record {
      size = length-put_arena d mem words ok w words_long;
      past = (arena-past d mem ok w words words_long).past;
      slots = slots_part-put_arena d mem words ok w words_long;
      texts = put_arena-texts d mem words w words_long (let z = sizes d (length mem) ok in omega (arith, z.arena w));
      here = arena_part-put_arena d mem words ok w words_long;
      other = arena_part-put_arena-other d mem words ok w words_long;
    }

    pub replaced-ok : memory_ok d (length (arena_replaced d w used mem)) ≡ true
    replaced-ok = memory_kept d mem (arena_replaced d w used mem) one-replaced.size ok

  -- ---- all three
  module _ (mem : List ℕ) (ok : memory_ok d (length mem) ≡ true) where
    pub record AllReplaced (mem' : List ℕ) : Type 0 where
      pub size : length mem' ≡ length mem
      pub past : drop (document_words (limits_of d.limits)) mem' ≡ drop (document_words (limits_of d.limits)) mem
      pub slots : slots_part d mem' ≡ slots_part d mem
      pub texts : TextsKept d mem mem'
      pub parts : (w : Which) → arena_part d w mem' ≡ arena_words (copied (entries_of d.limits w) (length_of used w) (arena_part d w mem))

    pub all-replaced : AllReplaced (arenas_replaced d used mem)
    all-replaced =
        let A = one-replaced mem ok children in
        let m₁ = arena_replaced d children used mem in
        let ok₁ = replaced-ok mem ok children in
        let B = one-replaced m₁ ok₁ attributes in
        let m₂ = arena_replaced d attributes used m₁ in
        let ok₂ = replaced-ok m₁ ok₁ attributes in
        let C = one-replaced m₂ ok₂ namespaces in
        record {
          size = C.size ∙ B.size ∙ A.size;
          past = C.past ∙ B.past ∙ A.past;
          slots = C.slots ∙ B.slots ∙ A.slots;
          texts = kept_again (kept_again A.texts B.texts) C.texts;
          parts = each A B C;
        }
      where
        each : OneReplaced mem ok children (arena_replaced d children used mem)
            → OneReplaced (arena_replaced d children used mem) (replaced-ok mem ok children) attributes (arena_replaced d attributes used (arena_replaced d children used mem))
            → OneReplaced (arena_replaced d attributes used (arena_replaced d children used mem)) (replaced-ok (arena_replaced d children used mem) (replaced-ok mem ok children) attributes) namespaces (arenas_replaced d used mem)
            → (w : Which) → arena_part d w (arenas_replaced d used mem) ≡ arena_words (copied (entries_of d.limits w) (length_of used w) (arena_part d w mem))
        each A B C children = C.other children refl ∙ B.other children refl ∙ A.here
        each A B C attributes = C.other attributes refl ∙ B.here ∙ ap (λ (x : List ℕ). arena_words (copied (entries_of d.limits attributes) (length_of used attributes) x)) (A.other attributes refl)
        each A B C namespaces =
            C.here
            ∙ ap (λ (x : List ℕ). arena_words (copied (entries_of d.limits namespaces) (length_of used namespaces) x)) (B.other namespaces refl ∙ A.other namespaces refl)
