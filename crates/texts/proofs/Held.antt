-- Each edit of the words is the edit of the pool, and the counts after are those of the pool after.
-- Assumes nothing.
use mathlib.Core.Path.{◌≡◌, refl, sym, ap, ◌∙◌}
use mathlib.Core.Bool.{Bool, true}
use mathlib.Core.List.{List, [], ◌∷◌, ◌++◌, reverse}
use Prim.Native.Nat.{ℕ, suc, ◌+◌, ◌-◌, ◌≤◌, ◌<◌}
use native.Mathlib.Numerals.{add-one}
use native.Mathlib.Omega.{arith}
use lib.ListN.{length, get_or, set, take, length-set}
use lib.Seq.{take-suc-set}
use lib.Dec.{eqb, leb}
use borrow.Author.Tests.{leb-true}
use Rattle.words.specs.Parts.{part, put}
use Rattle.words.specs.Lists.{count_of}
use Rattle.words.specs.Pieces.{pieces}
use Rattle.words.specs.Ends.{start_of, length_of, lengths_of, ends_reach}
use Rattle.words.proofs.Tests.{and_left, and_right}
use Rattle.words.proofs.Parts.{part_none, part-snoc, length-put, take-put-before, part-put-same, part-put-before}
use Rattle.words.proofs.Lengths.{pieces-same, pieces-append}
use Rattle.words.proofs.Reach.{lengths-snoc, reach-snoc}
use Rattle.texts.specs.Pool.{Pool, replaced}
use Rattle.texts.specs.Rule.{FreeTexts}
use Rattle.texts.specs.Words.{bytes_at, pool_of, Counted, PoolHeld, counts_fit, rewritten, StoredTo, ReplacedTo}
use Rattle.texts.specs.declared.TextLimits.{TextLimits}
use Rattle.texts.specs.declared.TextCounts.{TextCounts}
use Rattle.std.specs.Prelude.{Some, None}
use Rattle.texts.proofs.Lists.{reverse_snoc}
use Rattle.texts.proofs.Pool.{first-there, stored-empty, stored-new, stored-reused, stored_slot-new, stored_slot-reused}
use Rattle.texts.proofs.Words.{lengths-add, pool-slots, text-ends, text-length}
use Rattle.texts.proofs.Written.{part-set-before, size-written, stack-written, texts-written, reach-written, written-in-place}

-- what a call was told to fit, fits
pub told : (limits : TextLimits) (counts : TextCounts) (k off on : ℕ) → counts_fit limits counts k off on ≡ true
    → (counts.slots + k ≤ limits.slots + counts.free) × (counts.bytes + on ≤ limits.bytes + off)
unfolding counts_fit
told limits counts k off on t =
    let a : Bool = leb (counts.slots + k) (limits.slots + counts.free) in
    let b : Bool = leb (counts.bytes + on) (limits.bytes + off) in (
      leb-true (counts.slots + k) (limits.slots + counts.free) (and_left a b t),
      leb-true (counts.bytes + on) (limits.bytes + off) (and_right a b t),
    )

-- after an edit the pool is held again, by what rule 8 says of the pool after
pub held_after : (limits : TextLimits) (counts : TextCounts) (after : List ℕ) (p : Pool) → Counted limits counts after → pool_of limits counts after ≡ p → FreeTexts p → PoolHeld limits counts after
held_after limits counts after p h e f = record { counted = h; texts = rw e f }

module _ (limits : TextLimits) (counts : TextCounts) (words : List ℕ) (h : Counted limits counts words) (slot : ℕ) (m : slot < counts.slots) where
  -- ---- replace_text

  module _ (t : List ℕ) (f : counts.bytes + length t ≤ limits.bytes + length_of words slot) where
    abbrev replaced_counts : TextCounts
    replaced_counts = record { slots = counts.slots; free = counts.free; bytes = counts.bytes - length_of words slot + length t }

    replaced-counted : (n : ℕ) → n ≤ counts.free → Counted limits (record { slots = counts.slots; free = n; bytes = counts.bytes - length_of words slot + length t }) (rewritten limits counts words slot t)
    replaced-counted n g =
        let e : start_of words slot + length_of words slot ≤ counts.bytes = text-ends limits counts words h slot m in
        record {
          size = size-written limits counts words h slot m t f ∙ h.size;
          slots = h.slots;
          free = omega (arith, h.free);
          bytes = omega arith;
          ends = reach-written limits counts words h slot m t f;
        }

    -- the pool after, with the n lowest entries of the stack
    reused-pool : (n : ℕ) → n ≤ limits.slots → (bytes : ℕ)
        → pool_of limits (record { slots = counts.slots; free = n; bytes = bytes }) (rewritten limits counts words slot t)
        ≡ record { texts = set (pool_of limits counts words).texts slot t; free = reverse (part limits.slots n words) }
    unfolding pool_of
    reused-pool n g bytes =
        let p = texts-written limits counts words h slot m t f in
        let q = ap reverse (stack-written limits counts words h slot m t f n g) in
        λ i. record { texts = p i; free = q i }

    replaced-pool : pool_of limits replaced_counts (rewritten limits counts words slot t) ≡ replaced (pool_of limits counts words) (Some slot) t
    unfolding pool_of replaced
    replaced-pool = reused-pool counts.free h.free (counts.bytes - length_of words slot + length t)

    pub replaced-to : (after : List ℕ) → after ≡ rewritten limits counts words slot t → ReplacedTo limits counts words after slot t replaced_counts
    replaced-to after e =
        rw e (record { pool = replaced-pool; counted = replaced-counted counts.free (omega arith); in_place = λ q. written-in-place limits counts words h slot m t f q })

-- ---- store_text

module _ (limits : TextLimits) (counts : TextCounts) (words : List ℕ) (held : PoolHeld limits counts words) where
  -- an empty text takes no slot
  pub stored-nothing : (t : List ℕ) → length t ≡ 0 → StoredTo limits counts words words t (record { field = None; counts = counts })
  stored-nothing [] e = record { field = refl; pool = sym (stored-empty (pool_of limits counts words)); counted = held.counted }
  stored-nothing (b ∷ t) e = absurd (omega arith)

  -- the last released slot
  module _ (g : 0 < counts.free) where
    abbrev top : ℕ
    top = get_or words (limits.slots + (counts.free - 1)) 0

    stack_top : (pool_of limits counts words).free ≡ top ∷ reverse (part limits.slots (counts.free - 1) words)
    unfolding pool_of
    stack_top =
        let h : Counted limits counts words = held.counted in
        let e : counts.free ≡ suc (counts.free - 1) = omega arith in
        ap reverse (ap (λ (n : ℕ). part limits.slots n words) e ∙ part-snoc words limits.slots (counts.free - 1) 0 (omega (arith, h.size, h.free)))
        ∙ reverse_snoc (part limits.slots (counts.free - 1) words) top

    top-there : 0 < count_of (eqb top) (pool_of limits counts words).free
    top-there = rw stack_top (first-there top (reverse (part limits.slots (counts.free - 1) words)))

    pub top-made : top < counts.slots
    top-made = omega (arith, held.texts.inside top top-there, pool-slots limits counts words held.counted)

    -- its length is 0
    pub top-empty : length_of words top ≡ 0
    top-empty = sym (text-length limits counts words held.counted top top-made) ∙ ap length (held.texts.empty top top-there)

    abbrev reused_counts : ℕ → TextCounts
    reused_counts n = record { slots = counts.slots; free = counts.free - 1; bytes = counts.bytes + n }

    pub reused-to : (t after : List ℕ) → 0 < length t → counts.bytes + length t ≤ limits.bytes → after ≡ rewritten limits counts words top t
        → StoredTo limits counts words after t (record { field = Some (record { 0 = top }); counts = reused_counts (length t) })
    reused-to [] after n f e = absurd (omega arith)
    reused-to (b ∷ t) after n f e =
        rw e
        (record {
          field = sym (stored_slot-reused (pool_of limits counts words) b t top (reverse (part limits.slots (counts.free - 1) words)) stack_top);
          pool = pool-after ∙ sym (stored-reused (pool_of limits counts words) b t top (reverse (part limits.slots (counts.free - 1) words)) stack_top);
          counted = counted-after;
        })
      where
        fits : counts.bytes + length (b ∷ t) ≤ limits.bytes + length_of words top
        fits = omega arith

        counted-after : Counted limits (reused_counts (length (b ∷ t))) (rewritten limits counts words top (b ∷ t))
        counted-after =
            let w : Counted limits (record { slots = counts.slots; free = counts.free - 1; bytes = counts.bytes - length_of words top + length (b ∷ t) }) (rewritten limits counts words top (b ∷ t)) =
            replaced-counted limits counts words held.counted top top-made (b ∷ t) fits (counts.free - 1) (omega arith) in
            let e : counts.bytes + length (b ∷ t) ≡ counts.bytes - length_of words top + length (b ∷ t) = omega (arith, top-empty) in
            record {
              size = w.size;
              slots = w.slots;
              free = w.free;
              bytes = f;
              ends = ap (ends_reach 0 (take counts.slots (rewritten limits counts words top (b ∷ t)))) e ∙ w.ends;
            }

        pool-after : pool_of limits (reused_counts (length (b ∷ t))) (rewritten limits counts words top (b ∷ t))
            ≡ record { texts = set (pool_of limits counts words).texts top (b ∷ t); free = reverse (part limits.slots (counts.free - 1) words) }
        pool-after =
            reused-pool limits counts words held.counted top top-made (b ∷ t) fits (counts.free - 1) (omega (arith, held.counted.free)) (counts.bytes + length (b ∷ t))

  -- a new slot
  module _ (z : counts.free ≡ 0) (g : counts.slots < limits.slots) where
    none_free : (pool_of limits counts words).free ≡ []
    unfolding pool_of
    none_free = ap reverse (ap (λ (n : ℕ). part limits.slots n words) z ∙ part_none words limits.slots)

    abbrev new_counts : ℕ → TextCounts
    new_counts n = record { slots = counts.slots + 1; free = counts.free; bytes = counts.bytes + n }

    abbrev laid : List ℕ → List ℕ
    laid t = put (bytes_at limits + counts.bytes) t (set words counts.slots (counts.bytes + length t))

    module _ (t : List ℕ) (f : counts.bytes + length t ≤ limits.bytes) where
      size-set : length (set words counts.slots (counts.bytes + length t)) ≡ length words
      size-set = length-set words counts.slots (counts.bytes + length t)

      ends-laid : take (counts.slots + 1) (laid t) ≡ take counts.slots words ++ ((counts.bytes + length t) ∷ [])
      ends-laid =
          let h : Counted limits counts words = held.counted in
          take-put-before (set words counts.slots (counts.bytes + length t)) (bytes_at limits + counts.bytes) t (counts.slots + 1) (omega arith) (omega (arith, h.size, size-set))
          ∙ ap (λ (n : ℕ). take n (set words counts.slots (counts.bytes + length t))) (add-one counts.slots)
          ∙ take-suc-set words counts.slots (counts.bytes + length t) (omega (arith, h.size))

      lengths-laid : lengths_of (take (counts.slots + 1) (laid t)) ≡ lengths_of (take counts.slots words) ++ (length t ∷ [])
      lengths-laid =
          let e : counts.bytes + length t - counts.bytes ≡ length t = omega arith in
          ap lengths_of ends-laid
          ∙ lengths-snoc 0 counts.bytes (take counts.slots words) held.counted.ends (counts.bytes + length t)
          ∙ ap (λ (n : ℕ). lengths_of (take counts.slots words) ++ (n ∷ [])) e

      old-laid : part (bytes_at limits) counts.bytes (laid t) ≡ part (bytes_at limits) counts.bytes words
      old-laid =
          let h : Counted limits counts words = held.counted in
          part-put-before (set words counts.slots (counts.bytes + length t)) (bytes_at limits + counts.bytes) t (bytes_at limits) counts.bytes (omega arith) (omega (arith, h.size, size-set))
          ∙ part-set-before words (bytes_at limits) counts.bytes counts.slots (counts.bytes + length t) (omega arith)

      new-laid : part (bytes_at limits + counts.bytes) (length t) (laid t) ≡ t
      new-laid =
          let h : Counted limits counts words = held.counted in
          part-put-same (set words counts.slots (counts.bytes + length t)) (bytes_at limits + counts.bytes) t (omega (arith, h.size, size-set))

      texts-laid : pieces (bytes_at limits) (lengths_of (take (counts.slots + 1) (laid t))) (laid t) ≡ pieces (bytes_at limits) (lengths_of (take counts.slots words)) words ++ (t ∷ [])
      texts-laid =
          let sums = lengths-add limits counts words held.counted in
          ap (λ (l : List ℕ). pieces (bytes_at limits) l (laid t)) lengths-laid
          ∙ pieces-append (bytes_at limits) (lengths_of (take counts.slots words)) (length t ∷ []) (laid t)
          ∙ rw (
            pieces-same (bytes_at limits) (bytes_at limits) (lengths_of (take counts.slots words)) (laid t) words (rw sums old-laid),
            sums,
            new-laid,
          )

      counted-laid : Counted limits (new_counts (length t)) (laid t)
      counted-laid =
          let h : Counted limits counts words = held.counted in
          record {
            size = length-put (set words counts.slots (counts.bytes + length t)) (bytes_at limits + counts.bytes) t (omega (arith, h.size, size-set)) ∙ size-set ∙ h.size;
            slots = omega arith;
            free = omega arith;
            bytes = f;
            ends =
                ap (λ (l : List ℕ). ends_reach 0 l (counts.bytes + length t)) ends-laid
                ∙ reach-snoc 0 counts.bytes (take counts.slots words) h.ends (counts.bytes + length t) (omega arith);
          }

      pool-laid : pool_of limits (new_counts (length t)) (laid t) ≡ record { texts = (pool_of limits counts words).texts ++ (t ∷ []); free = [] }
      unfolding pool_of
      pool-laid =
          let p = texts-laid in
          let q = ap reverse (ap (λ (n : ℕ). part limits.slots n (laid t)) z ∙ part_none (laid t) limits.slots) in
          λ i. record { texts = p i; free = q i }

    pub new-to : (t after : List ℕ) → 0 < length t → counts.bytes + length t ≤ limits.bytes → after ≡ laid t
        → StoredTo limits counts words after t (record { field = Some (record { 0 = counts.slots }); counts = new_counts (length t) })
    new-to [] after n f e = absurd (omega arith)
    new-to (b ∷ t) after n f e =
        rw e
        (record {
          field = sym (stored_slot-new (pool_of limits counts words) b t none_free ∙ ap Some (pool-slots limits counts words held.counted));
          pool = pool-laid (b ∷ t) f ∙ sym (stored-new (pool_of limits counts words) b t none_free);
          counted = counted-laid (b ∷ t) f;
        })
