-- Slots pushed on the stack, and the bytes of all that stand on it given back.
-- Assumes nothing.
use Rattle.std.specs.Prelude.{Option, None, Some}
use mathlib.Core.Path.{◌≡◌, refl, sym, ap, ◌∙◌}
use mathlib.Core.Bool.{Bool, cond}
use mathlib.Core.List.{List, [], ◌∷◌, ◌++◌, reverse}
use Prim.Native.Nat.{ℕ, zero, suc, ◌+◌, ◌≤◌, ◌<◌}
use native.Mathlib.Numerals.{add-one}
use native.Mathlib.Decide.{ℕ_discrete}
use native.Mathlib.Omega.{arith}
use lib.ListN.{length, get_or, set, take, replicate, length-set, length-replicate}
use lib.Seq.{ext_get_or, take-set-le, get_or-set_same, get_or-set_other, set-get_or}
use lib.Dec.{eqb}
use borrow.Author.Tests.{eq-eqb, ne_eqb}
use Rattle.words.specs.Parts.{part}
use Rattle.words.specs.Lists.{sum, count_of, tabulate}
use Rattle.words.specs.Pieces.{pieces}
use Rattle.words.specs.Ends.{lengths_of, ends_reach}
use Rattle.words.proofs.Parts.{part-snoc, length_part}
use Rattle.words.proofs.Lists.{length-tabulate, get_or-tabulate}
use Rattle.words.proofs.Lengths.{pieces-same}
use Rattle.texts.specs.Pool.{Pool, bytes_of, released, pushed, emptied, reclaimed}
use Rattle.texts.specs.Rule.{FreeTexts}
use Rattle.texts.specs.Words.{bytes_at, pool_of, Counted, PushedTo, Markable, marked, kept_text, laid, Reclaimable, ReclaimedTo}
use Rattle.texts.specs.declared.TextLimits.{TextLimits}
use Rattle.texts.specs.declared.TextCounts.{TextCounts}
use Rattle.texts.proofs.Lists.{reverse_snoc, count_of-reverse, get_or-count, marked-at}
use Rattle.texts.proofs.Pool.{first-there}
use Rattle.texts.proofs.Words.{pool-slots}
use Rattle.texts.proofs.Written.{part-set-before, part-set-after}
use Rattle.releasing.proofs.Laid.{size-laid, laid-between, laid-texts, laid-reach}

-- ---- over the pool

-- a slot pushed before the bytes are given back is a slot released after
pub reclaimed-pushed : (p : Pool) (t : Option ℕ) → reclaimed (pushed p t) ≡ released (reclaimed p) t
unfolding reclaimed pushed released
reclaimed-pushed p None = refl
reclaimed-pushed p (Some s) = refl

pub length-emptied : (l : List ℕ) (ts : List (List ℕ)) → length (emptied l ts) ≡ length ts
length-emptied [] ts = refl
length-emptied (s ∷ l) ts = length-set (emptied l ts) s [] ∙ length-emptied l ts

-- nothing is given back where the texts on the stack are empty
emptied-none : (l : List ℕ) (ts : List (List ℕ)) → ((s : ℕ) → 0 < count_of (eqb s) l → get_or ts s [] ≡ []) → emptied l ts ≡ ts
emptied-none [] ts h = refl
emptied-none (s ∷ l) ts h =
    ap (λ (x : List (List ℕ)). set x s []) (emptied-none l ts (λ x k. h x (omega arith)))
    ∙ ap (set ts s) (sym (h s (first-there s l)))
    ∙ set-get_or ts s []

pub reclaimed-none : (p : Pool) → FreeTexts p → reclaimed p ≡ p
unfolding reclaimed
reclaimed-none p f =
    let e = emptied-none p.free p.texts f.empty in
    λ i. record { texts = e i; free = p.free }

module _ (ts : List (List ℕ)) (i : ℕ) where
  -- a text that is not on the stack stays, and one that is there gets length 0
  emptied-other : (l : List ℕ) → count_of (eqb i) l ≡ 0 → get_or (emptied l ts) i [] ≡ get_or ts i []
  emptied-other [] e = refl
  emptied-other (s ∷ l) e =
      let ne : i ≡ s → ⊥ = λ q. (let z : cond {A = ℕ} (eqb i s) 1 0 ≡ 1 = rw (eq-eqb i s q) in omega arith) in
      get_or-set_other (emptied l ts) s i [] [] ne ∙ emptied-other l (omega arith)

  emptied-there : (l : List ℕ) → i < length ts → 0 < count_of (eqb i) l → get_or (emptied l ts) i [] ≡ []
  emptied-there [] b k = absurd (omega arith)
  emptied-there (s ∷ l) b k = go (ℕ_discrete i s) (λ q. emptied-there l b q)
    where
      go : Dec (i ≡ s) → (0 < count_of (eqb i) l → get_or (emptied l ts) i [] ≡ []) → get_or (set (emptied l ts) s []) i [] ≡ []
      go (yes e) ih =
          ap (λ (x : ℕ). get_or (set (emptied l ts) x []) i []) (sym e)
          ∙ get_or-set_same (emptied l ts) i [] [] (omega (arith, length-emptied l ts))
      go (no ne) ih =
          let z : cond {A = ℕ} (eqb i s) 1 0 ≡ 0 = rw (ne_eqb i s ne) in
          get_or-set_other (emptied l ts) s i [] [] ne ∙ ih (omega arith)

-- ---- a slot pushed

module _ (limits : TextLimits) (counts : TextCounts) (words : List ℕ) (h : Counted limits counts words) (slot : ℕ) (g : counts.free < limits.slots) where
  abbrev after : List ℕ
  after = set words (limits.slots + counts.free) slot

  abbrev pushed_counts : TextCounts
  pushed_counts = record { slots = counts.slots; free = counts.free + 1; bytes = counts.bytes }

  ends-pushed : take counts.slots after ≡ take counts.slots words
  ends-pushed = take-set-le counts.slots words (limits.slots + counts.free) slot (omega (arith, h.slots))

  stack-pushed : part limits.slots (counts.free + 1) after ≡ part limits.slots counts.free words ++ (slot ∷ [])
  stack-pushed =
      let i : limits.slots + counts.free < length words = omega (arith, h.size) in
      ap (λ (n : ℕ). part limits.slots n after) (add-one counts.free)
      ∙ part-snoc after limits.slots counts.free 0 (rw (length-set words (limits.slots + counts.free) slot) i)
      ∙ ap (λ (x : ℕ). part limits.slots counts.free after ++ (x ∷ [])) (get_or-set_same words (limits.slots + counts.free) slot 0 i)
      ∙ ap (λ (l : List ℕ). l ++ (slot ∷ [])) (part-set-after words limits.slots counts.free (limits.slots + counts.free) slot (omega arith))

  texts-pushed : pieces (bytes_at limits) (lengths_of (take counts.slots after)) after ≡ pieces (bytes_at limits) (lengths_of (take counts.slots words)) words
  texts-pushed =
      ap (λ (l : List ℕ). pieces (bytes_at limits) (lengths_of l) after) ends-pushed
      ∙ pieces-same (bytes_at limits) (bytes_at limits) (lengths_of (take counts.slots words)) after words
      (part-set-before words (bytes_at limits) (sum (lengths_of (take counts.slots words))) (limits.slots + counts.free) slot (omega arith))

  pushed-pool : pool_of limits pushed_counts after ≡ pushed (pool_of limits counts words) (Some slot)
  unfolding pool_of pushed
  pushed-pool =
      let p = texts-pushed in
      let q = ap reverse stack-pushed ∙ reverse_snoc (part limits.slots counts.free words) slot in
      λ i. record { texts = p i; free = q i }

  pub pushed-to : PushedTo limits counts words (set words (limits.slots + counts.free) slot) (slot) (record { slots = counts.slots; free = counts.free + 1; bytes = counts.bytes })
  pushed-to =
      record {
        pool = pushed-pool;
        counted =
            record {
              size = length-set words (limits.slots + counts.free) slot ∙ h.size;
              slots = h.slots;
              free = omega arith;
              bytes = h.bytes;
              ends = ap (λ (l : List ℕ). ends_reach 0 l counts.bytes) ends-pushed ∙ h.ends;
            };
      }

-- ---- the marks are those of the stack

module _ (limits : TextLimits) (counts : TextCounts) (words : List ℕ) (r : Reclaimable limits counts words) (marks clear : List ℕ) (f : counts.slots ≤ length marks) (z : clear ≡ replicate (length marks) 0) where
  abbrev stack : List ℕ
  stack = part limits.slots counts.free words

  abbrev texts : List (List ℕ)
  texts = (pool_of limits counts words).texts

  on_stack : (s : ℕ) → count_of (eqb s) (pool_of limits counts words).free ≡ count_of (eqb s) stack
  unfolding pool_of
  on_stack s = count_of-reverse (eqb s) stack

  size-clear : length clear ≡ length marks
  size-clear = ap length z ∙ length-replicate {A = ℕ} (length marks) 0

  size-stack : length stack ≡ counts.free
  size-stack = length_part words limits.slots counts.free (omega (arith, r.counted.size, r.counted.free))

  none-marked : (s : ℕ) → get_or clear s 0 ≡ 0
  none-marked s = ap (λ (l : List ℕ). get_or l s 0) z ∙ zeros (length marks) s
    where
      zeros : (n i : ℕ) → get_or {A = ℕ} (replicate n 0) i 0 ≡ 0
      zeros zero i = refl
      zeros (suc n) zero = refl
      zeros (suc n) (suc i) = zeros n i

  pub markable : counts.free < 18446744073709551616 → (limits.slots + counts.free ≤ length words) × Markable (part limits.slots counts.free words) clear
  markable b = (omega (arith, r.counted.size, r.counted.free), record { inside = inside; small = λ s. omega (arith, none-marked s, size-stack) })
    where
      inside : (i : ℕ) → i < length stack → get_or stack i 0 < length clear
      inside i k =
          let m : get_or stack i 0 < counts.slots = r.made (get_or stack i 0) (omega (arith, get_or-count stack i k, on_stack (get_or stack i 0))) in
          omega (arith, size-clear)

  module _ (set-marks : List ℕ) (e : set-marks ≡ marked (part limits.slots counts.free words) clear) where
    abbrev left : List (List ℕ)
    left = tabulate (kept_text set-marks texts) counts.slots

    mark-is : (s : ℕ) → s < counts.slots → get_or set-marks s 0 ≡ count_of (eqb s) (pool_of limits counts words).free
    mark-is s m =
        omega (arith, ap (λ (l : List ℕ). get_or l s 0) e, marked-at stack clear s (omega (arith, size-clear)), none-marked s, on_stack s)

    text-left : (s : ℕ) → s < counts.slots → get_or (emptied (pool_of limits counts words).free texts) s [] ≡ kept_text set-marks texts s
    text-left s m = go (ℕ_discrete (get_or set-marks s 0) 0)
      where
        go : Dec (get_or set-marks s 0 ≡ 0) → get_or (emptied (pool_of limits counts words).free texts) s [] ≡ kept_text set-marks texts s
        go (yes q) =
            emptied-other texts s (pool_of limits counts words).free (omega (arith, mark-is s m))
            ∙ sym (ap (λ (t : Bool). cond t (get_or texts s []) []) (eq-eqb (get_or set-marks s 0) 0 q))
        go (no q) =
            emptied-there texts s (pool_of limits counts words).free (omega (arith, pool-slots limits counts words r.counted)) (omega (arith, mark-is s m))
            ∙ sym (ap (λ (t : Bool). cond t (get_or texts s []) []) (ne_eqb (get_or set-marks s 0) 0 q))

    all_left : left ≡ emptied (pool_of limits counts words).free texts
    all_left =
        let n : length (emptied (pool_of limits counts words).free texts) ≡ counts.slots =
        length-emptied (pool_of limits counts words).free texts ∙ pool-slots limits counts words r.counted in
        ext_get_or [] left (emptied (pool_of limits counts words).free texts) (length-tabulate (kept_text set-marks texts) counts.slots ∙ sym n)
        (λ i k.
        let m : i < counts.slots = omega (arith, length-tabulate (kept_text set-marks texts) counts.slots) in
        get_or-tabulate (kept_text set-marks texts) counts.slots i [] m ∙ sym (text-left i m))

    module _ (after : List ℕ) (bytes : ℕ)
        (q : (after ≡ laid (bytes_at limits) (tabulate (kept_text set-marks (pool_of limits counts words).texts) counts.slots) words)
        × ((bytes ≡ length (bytes_of (tabulate (kept_text set-marks (pool_of limits counts words).texts) counts.slots))) × (bytes ≤ counts.bytes))) where
      abbrev after-counts : TextCounts
      after-counts = record { slots = counts.slots; free = counts.free; bytes = bytes }

      size-left : length left ≡ counts.slots
      size-left = length-tabulate (kept_text set-marks texts) counts.slots

      few-left : length left ≤ bytes_at limits
      few-left = omega (arith, size-left, r.counted.slots)

      left-fit : bytes_at limits + length (bytes_of left) ≤ length words
      left-fit = omega (arith, q.1.0, q.1.1, r.counted.bytes, r.counted.size)

      pool-after : pool_of limits after-counts after ≡ reclaimed (pool_of limits counts words)
      unfolding pool_of reclaimed
      pool-after =
          let t : pieces (bytes_at limits) (lengths_of (take counts.slots after)) after ≡ emptied (pool_of limits counts words).free texts =
          ap (λ (l : List ℕ). pieces (bytes_at limits) (lengths_of (take counts.slots l)) l) q.0
          ∙ ap (λ (n : ℕ). pieces (bytes_at limits) (lengths_of (take n (laid (bytes_at limits) left words))) (laid (bytes_at limits) left words)) (sym size-left)
          ∙ laid-texts (bytes_at limits) words left few-left left-fit
          ∙ all_left in
          let s = ap reverse (ap (part limits.slots counts.free) q.0
          ∙ laid-between (bytes_at limits) words left few-left left-fit limits.slots counts.free (omega (arith, size-left, r.counted.slots)) (omega (arith, r.counted.free))) in
          λ i. record { texts = t i; free = s i }

      pub reclaimed-to : ReclaimedTo limits counts words after (record { slots = counts.slots; free = counts.free; bytes = bytes })
      reclaimed-to =
          record {
            pool = pool-after;
            counted =
                record {
                  size = ap length q.0 ∙ size-laid (bytes_at limits) words left few-left left-fit ∙ r.counted.size;
                  slots = r.counted.slots;
                  free = r.counted.free;
                  bytes = omega (arith, q.1.1, r.counted.bytes);
                  ends =
                      ap (λ (l : List ℕ). ends_reach 0 (take counts.slots l) bytes) q.0
                      ∙ ap (λ (n : ℕ). ends_reach 0 (take n (laid (bytes_at limits) left words)) bytes) (sym size-left)
                      ∙ ap (ends_reach 0 (take (length left) (laid (bytes_at limits) left words))) q.1.0
                      ∙ laid-reach (bytes_at limits) words left few-left left-fit;
                };
          }
