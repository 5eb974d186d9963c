-- Between the words of a text pool and the pool: what the counts say, what is read, and the test of rules 1 and 8.
-- Assumes nothing.
use Rattle.std.specs.Prelude.{Some}
use mathlib.Core.Path.{◌≡◌, sym, ap, ◌∙◌}
use mathlib.Core.Bool.{Bool, true, ◌&&◌}
use mathlib.Core.List.{List, [], ◌∷◌}
use Prim.Native.Nat.{ℕ, ◌+◌, ◌-◌, ◌≤◌, ◌<◌, min}
use native.Mathlib.Decide.{dec_lt}
use native.Mathlib.Omega.{arith}
use lib.ListN.{length, get_or, take, length-reverse, get_or-eq_default}
use lib.Dec.{eqb, ltb, leb}
use borrow.Author.Tests.{le-leb, leb-true, lt-ltb, ltb-true, eqb-true, eq-eqb}
use Rattle.words.specs.Parts.{part}
use Rattle.words.specs.Lists.{sum, all, count_of}
use Rattle.words.specs.Ends.{start_of, length_of, lengths_of, ends_reach}
use Rattle.words.proofs.Tests.{and_left, and_right, and_both}
use Rattle.words.proofs.Parts.{part_none, length_part}
use Rattle.words.proofs.Reach as reach
use Rattle.words.proofs.Places.{reach-place}
use Rattle.texts.specs.Pool.{bytes_of, text_at, texts_fit}
use Rattle.texts.specs.Rule.{FreeTexts}
use Rattle.texts.specs.Words.{bytes_at, pool_of, Counted, PoolHeld, free_ok, pool_ok, place_shown, text_shown, counts_fit}
use Rattle.texts.specs.declared.TextLimits.{TextLimits}
use Rattle.texts.specs.declared.TextCounts.{TextCounts}
use Rattle.texts.proofs.Places.{shown-at, shown-empty}
use Rattle.texts.proofs.Lists.{all-count, count-all, count_of-reverse}

-- ---- the counts are those of the pool

module _ (limits : TextLimits) (counts : TextCounts) (words : List ℕ) (h : Counted limits counts words) where
  fits : counts.slots ≤ length words
  fits = omega (arith, h.size)

  pub lengths-taken : length (lengths_of (take counts.slots words)) ≡ counts.slots
  lengths-taken = reach.lengths-taken counts.slots counts.bytes words fits h.ends

  pub lengths-add : sum (lengths_of (take counts.slots words)) ≡ counts.bytes
  lengths-add = reach.lengths-add counts.slots counts.bytes words fits h.ends

  pub pool-slots : length (pool_of limits counts words).texts ≡ counts.slots
  unfolding pool_of
  pool-slots = reach.count-taken counts.slots counts.bytes words fits h.ends (bytes_at limits)

  pub pool-free : length (pool_of limits counts words).free ≡ counts.free
  unfolding pool_of
  pool-free = length-reverse (part limits.slots counts.free words) ∙ length_part words limits.slots counts.free (omega (arith, h.size))

  pub pool-bytes : length (bytes_of (pool_of limits counts words).texts) ≡ counts.bytes
  unfolding pool_of
  pool-bytes = reach.bytes-taken counts.slots counts.bytes words fits h.ends (bytes_at limits) (omega (arith, h.size))

  pub fits-pool : (k off on : ℕ) → counts_fit limits counts k off on ≡ texts_fit limits.slots limits.bytes (pool_of limits counts words) k off on
  unfolding counts_fit texts_fit
  fits-pool k off on = rw (pool-slots, pool-free, pool-bytes)

  -- ---- what is read

  module _ (slot : ℕ) (m : slot < counts.slots) where
    -- the end and the length of a slot's text
    pub end-taken : get_or (take counts.slots words) slot 0 ≡ get_or words slot 0
    end-taken = reach.end-taken counts.slots counts.bytes words fits h.ends slot m

    pub length-said : get_or (take counts.slots words) slot 0 - get_or (0 ∷ take counts.slots words) slot 0 ≡ length_of words slot
    length-said = reach.length-said counts.slots counts.bytes words fits h.ends slot m

    pub length_taken : get_or (lengths_of (take counts.slots words)) slot 0 ≡ length_of words slot
    length_taken = reach.length_taken counts.slots counts.bytes words fits h.ends slot m

    -- it begins behind the lengths before
    pub start-added : sum (take slot (lengths_of (take counts.slots words))) ≡ start_of words slot
    start-added = reach.start-added counts.slots counts.bytes words fits h.ends slot m

    -- and ends among the bytes used
    pub text-rises : start_of words slot ≤ get_or words slot 0
    text-rises = reach.piece-rises counts.slots counts.bytes words fits h.ends slot m

    pub text-within : get_or words slot 0 ≤ counts.bytes
    text-within = reach.piece-within counts.slots counts.bytes words fits h.ends slot m

    pub text-end : start_of words slot + length_of words slot ≡ get_or words slot 0
    text-end = reach.piece-end counts.slots counts.bytes words fits h.ends slot m

    pub text-ends : start_of words slot + length_of words slot ≤ counts.bytes
    text-ends = omega (arith, text-end, text-within)

    -- the text of a slot is where the ends say
    pub pool-text : text_at (pool_of limits counts words) (Some slot) ≡ part (bytes_at limits + start_of words slot) (length_of words slot) words
    unfolding pool_of
    pool-text = reach.piece-taken counts.slots counts.bytes words fits h.ends slot m (bytes_at limits)

    pub text-length : length (text_at (pool_of limits counts words) (Some slot)) ≡ length_of words slot
    text-length = ap length pool-text ∙ length_part words (bytes_at limits + start_of words slot) (length_of words slot) (omega (arith, h.size, text-ends))

    -- where it is shown to lie
    pub shown-place : place_shown limits counts slot words ≡ record { start = start_of words slot; len = length_of words slot }
    unfolding place_shown
    shown-place =
        let a : min counts.slots limits.slots ≡ counts.slots = omega (arith, h.slots) in
        let b : min counts.bytes limits.bytes ≡ counts.bytes = omega (arith, h.bytes) in
        rw (a, b) (reach-place counts.slots counts.bytes words fits h.ends slot m)

  pub shown-text : (slot : ℕ) → text_shown limits counts slot words ≡ text_at (pool_of limits counts words) (Some slot)
  shown-text slot = go (dec_lt slot counts.slots)
    where
      go : Dec (slot < counts.slots) → text_shown limits counts slot words ≡ text_at (pool_of limits counts words) (Some slot)
      go (yes m) = shown-at limits counts slot words (record { start = start_of words slot; len = length_of words slot }) (shown-place slot m) ∙ sym (pool-text slot m)
      go (no m) =
          shown-empty limits counts slot words (omega arith)
          ∙ sym (get_or-eq_default (pool_of limits counts words).texts [] {n = slot} (omega (arith, pool-slots)))

-- ---- the test is the rule

module _ (limits : TextLimits) (counts : TextCounts) (words : List ℕ) where
  -- the free list's part
  module _ (h : Counted limits counts words) where
    free-there : (s : ℕ) → count_of (eqb s) (pool_of limits counts words).free ≡ count_of (eqb s) (part limits.slots counts.free words)
    unfolding pool_of
    free-there s = count_of-reverse (eqb s) (part limits.slots counts.free words)

    pub ok-free : all (free_ok counts.slots words) (part limits.slots counts.free words) ≡ true → FreeTexts (pool_of limits counts words)
    ok-free t = record { inside = λ s k. rw (pool-slots limits counts words h) (made s k); empty = λ s k. without-bytes s k }
      where
        good : (s : ℕ) → 0 < count_of (eqb s) (pool_of limits counts words).free → free_ok counts.slots words s ≡ true
        good s k = all-count (free_ok counts.slots words) (part limits.slots counts.free words) s t (rw (free-there s) at k)

        made : (s : ℕ) → 0 < count_of (eqb s) (pool_of limits counts words).free → s < counts.slots
        made s k = ltb-true s counts.slots (and_left (ltb s counts.slots) (eqb (get_or words s 0) (start_of words s)) (good s k))

        without-bytes : (s : ℕ) → 0 < count_of (eqb s) (pool_of limits counts words).free → get_or (pool_of limits counts words).texts s [] ≡ []
        without-bytes s k =
            let e : get_or words s 0 ≡ start_of words s = eqb-true (get_or words s 0) (start_of words s) (and_right (ltb s counts.slots) (eqb (get_or words s 0) (start_of words s)) (good s k)) in
            let z : length_of words s ≡ 0 = omega (arith, text-end limits counts words h s (made s k)) in
            pool-text limits counts words h s (made s k)
            ∙ ap (λ (n : ℕ). part (bytes_at limits + start_of words s) n words) z
            ∙ part_none words (bytes_at limits + start_of words s)

    pub free-ok : FreeTexts (pool_of limits counts words) → all (free_ok counts.slots words) (part limits.slots counts.free words) ≡ true
    free-ok f = count-all (free_ok counts.slots words) (part limits.slots counts.free words) (λ s k. good s (rw (free-there s) k))
      where
        good : (s : ℕ) → 0 < count_of (eqb s) (pool_of limits counts words).free → free_ok counts.slots words s ≡ true
        good s k =
            let m : s < counts.slots = rw (pool-slots limits counts words h) at (f.inside s k) in
            let z : length_of words s ≡ 0 = sym (text-length limits counts words h s m) ∙ ap length (f.empty s k) in
            and_both (ltb s counts.slots) (eqb (get_or words s 0) (start_of words s)) (lt-ltb s counts.slots m)
            (eq-eqb (get_or words s 0) (start_of words s) (omega (arith, text-end limits counts words h s m)))

  pub ok-held : length words ≡ bytes_at limits + limits.bytes → pool_ok limits counts words ≡ true → PoolHeld limits counts words
  unfolding pool_ok
  ok-held s t =
      let ta : Bool = leb counts.slots limits.slots in
      let tb : Bool = leb counts.free limits.slots in
      let td : Bool = leb counts.bytes limits.bytes in
      let te : Bool = ends_reach 0 (take counts.slots words) counts.bytes in
      let tf : Bool = all (free_ok counts.slots words) (part limits.slots counts.free words) in
      let r₁ : (tb && (td && (te && tf))) ≡ true = and_right ta (tb && (td && (te && tf))) t in
      let r₂ : (td && (te && tf)) ≡ true = and_right tb (td && (te && tf)) r₁ in
      let r₃ : (te && tf) ≡ true = and_right td (te && tf) r₂ in
      let h : Counted limits counts words =
      record {
        size = s;
        slots = leb-true counts.slots limits.slots (and_left ta (tb && (td && (te && tf))) t);
        free = leb-true counts.free limits.slots (and_left tb (td && (te && tf)) r₁);
        bytes = leb-true counts.bytes limits.bytes (and_left td (te && tf) r₂);
        ends = and_left te tf r₃;
      } in
      record { counted = h; texts = ok-free h (and_right te tf r₃) }

  pub held-ok : PoolHeld limits counts words → pool_ok limits counts words ≡ true
  unfolding pool_ok
  held-ok p =
      let h : Counted limits counts words = p.counted in
      rw (le-leb counts.slots limits.slots h.slots, le-leb counts.free limits.slots h.free, le-leb counts.bytes limits.bytes h.bytes, h.ends) (free-ok h p.texts)
