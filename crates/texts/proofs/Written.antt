-- The words after a text was written, moved or released, and the pool that they hold then.
-- Assumes nothing.
use mathlib.Core.Path.{◌≡◌, refl, sym, ap, ◌∙◌}
use mathlib.Core.Bool.{true}
use mathlib.Core.List.{List, ◌++◌, map, append_assoc}
use Prim.Native.Nat.{ℕ, suc, ◌+◌, ◌-◌, ◌≤◌, ◌<◌}
use native.Mathlib.Omega.{arith}
use lib.ListN.{length, get_or, set, take, drop, length-append, length-take, length-map}
use lib.Seq.{take_at, take-take, take-set-le, drop-set-lt, length-take-le}
use Rattle.words.specs.Parts.{part, put}
use Rattle.words.specs.Lists.{sum}
use Rattle.words.specs.Pieces.{pieces}
use Rattle.words.proofs.Parts.{drop-take, length_part, length-put, get_or-part, get_or-put-before, take-put-before, part-put-same, part-put-before, part-put-after, put_same}
use Rattle.words.proofs.Lengths.{sum-split, pieces-set}
use Rattle.words.specs.Ends.{start_of, length_of, lengths_of, ends_reach, moved_end}
use Rattle.words.proofs.Reach.{ends_above, lengths-moved, reach-moved, map_same}
use Rattle.texts.specs.Words.{bytes_at, Counted, start_at, Movable, ends_moved, bytes_moved, roomed, rewritten}
use Rattle.texts.specs.declared.TextLimits.{TextLimits}
use Rattle.texts.specs.declared.TextCounts.{TextCounts}
use Rattle.texts.proofs.Words.{lengths-taken, lengths-add, end-taken, length-said, length_taken, start-added, text-end, text-ends, text-within}

-- ---- a store outside a part

pub part-set-before : (l : List ℕ) (s n i v : ℕ) → i < s → part s n (set l i v) ≡ part s n l
unfolding part
part-set-before l s n i v h = ap (take n) (drop-set-lt s l i v h)

pub part-set-after : (l : List ℕ) (s n i v : ℕ) → s + n ≤ i → part s n (set l i v) ≡ part s n l
unfolding part
part-set-after l s n i v h =
    sym (drop-take s n (set l i v)) ∙ ap (drop s) (take-set-le (s + n) l i v h) ∙ drop-take s n l

-- what is put, with all before it
take-put-through : (l : List ℕ) (p : ℕ) (vs : List ℕ) → p ≤ length l → take (p + length vs) (put p vs l) ≡ take p l ++ vs
unfolding put
take-put-through l p vs h =
    let n : length (take p l ++ vs) ≡ p + length vs = simp (length-append, length-take) (omega arith) in
    ap (take (p + length vs)) (sym (append_assoc (take p l) vs (drop (p + length vs) l))) ∙ take_at (take p l ++ vs) (drop (p + length vs) l) (p + length vs) n

-- ---- the ends from a slot on

module _ (limits : TextLimits) (counts : TextCounts) (words : List ℕ) (h : Counted limits counts words) (slot : ℕ) (m : slot < counts.slots) where
  -- the text of the slot has no more bytes than where any of them stands, and none stands past the bytes used
  pub end-behind : (i : ℕ) → i < counts.slots - slot → (length_of words slot ≤ get_or words (slot + i) 0) × (get_or words (slot + i) 0 ≤ counts.bytes)
  end-behind i b =
      let n = length-take-le counts.slots words (omega (arith, h.slots, h.size)) in
      let a : get_or words slot 0 ≤ get_or words (slot + i) 0 =
      omega (
        arith,
        ends_above 0 counts.bytes (take counts.slots words) h.ends slot (slot + i) (omega arith) (omega arith),
        end-taken limits counts words h slot m,
        end-taken limits counts words h (slot + i) (omega arith),
      ) in
      (omega (arith, text-end limits counts words h slot m), text-within limits counts words h (slot + i) (omega arith))

  module _ (len : ℕ) (f : counts.bytes + len ≤ limits.bytes + length_of words slot) where
    abbrev behind : ℕ
    behind = counts.bytes - start_of words slot - length_of words slot

    ends-here : start_of words slot + length_of words slot ≤ counts.bytes
    ends-here = text-ends limits counts words h slot m

    pub size-behind : length (part (start_at limits words slot + length_of words slot) (counts.bytes - start_of words slot - length_of words slot) words) ≡ counts.bytes - start_of words slot - length_of words slot
    size-behind = length_part words (start_at limits words slot + length_of words slot) behind (omega (arith, h.size, h.bytes, ends-here))

    pub size-bytes : length (bytes_moved limits counts words slot len) ≡ length words
    unfolding bytes_moved
    size-bytes = length-put words (start_at limits words slot + len) (part (start_at limits words slot + length_of words slot) behind words) (omega (arith, h.size, ends-here, size-behind))

    -- what lies before the bytes is as it was
    pub before-bytes : (p n : ℕ) → p + n ≤ bytes_at limits → part p n (bytes_moved limits counts words slot len) ≡ part p n words
    unfolding bytes_moved
    before-bytes p n b =
        part-put-before words (start_at limits words slot + len) (part (start_at limits words slot + length_of words slot) behind words) p n (omega arith) (omega (arith, h.size, ends-here))

    pub ends-movable : limits.bytes < 18446744073709551616 → Movable (part slot (counts.slots - slot) (bytes_moved limits counts words slot len)) (length_of words slot) len
    unfolding bytes_moved
    ends-movable w =
        record {
          low = λ i b. let g : i < counts.slots - slot = omega (arith, count) in omega (arith, same i g, (end-behind i g).0);
          small = λ i b. let g : i < counts.slots - slot = omega (arith, count) in omega (arith, same i g, (end-behind i g).1, (end-behind i g).0);
        }
      where
        count : length (part slot (counts.slots - slot) (bytes_moved limits counts words slot len)) ≡ counts.slots - slot
        count = length_part (bytes_moved limits counts words slot len) slot (counts.slots - slot) (omega (arith, size-bytes, h.size, h.slots))

        same : (i : ℕ) → i < counts.slots - slot → get_or (part slot (counts.slots - slot) (bytes_moved limits counts words slot len)) i 0 ≡ get_or words (slot + i) 0
        same i b =
            get_or-part (bytes_moved limits counts words slot len) slot (counts.slots - slot) i 0 b
            ∙ get_or-put-before words (start_at limits words slot + len) (part (start_at limits words slot + length_of words slot) behind words) (slot + i) 0
            (omega (arith, h.slots)) (omega (arith, h.size, ends-here))

  -- a text given the room that it had leaves all words
  pub roomed-same : (len : ℕ) → length_of words slot ≡ len → roomed limits counts words slot len ≡ words
  unfolding roomed bytes_moved ends_moved moved_end
  roomed-same len e =
      let old = length_of words slot in
      let n = counts.slots - slot in
      let p : bytes_moved limits counts words slot len ≡ words =
      ap (λ (k : ℕ). put (start_at limits words slot + k) (part (start_at limits words slot + old) (counts.bytes - start_of words slot - old) words) words) (sym e)
      ∙ put_same words (start_at limits words slot + old) (counts.bytes - start_of words slot - old) (omega (arith, h.size, h.bytes, text-ends limits counts words h slot m)) in
      let w : slot + n ≤ length words = omega (arith, h.size, h.slots) in
      let size : length (part slot n words) ≡ n = length_part words slot n w in
      let q : map (moved_end old len) (part slot n words) ≡ part slot n words =
      map_same (moved_end old len) (part slot n words)
      (λ i b. omega (arith, get_or-part words slot n i 0 (omega arith), (end-behind i (omega arith)).0)) in
      ap (λ (l : List ℕ). ends_moved l slot n old len) p ∙ ap (λ (vs : List ℕ). put slot vs words) q ∙ put_same words slot n w

-- ---- a slot's text replaced

module _ (limits : TextLimits) (counts : TextCounts) (words : List ℕ) (h : Counted limits counts words) (slot : ℕ) (m : slot < counts.slots)
    (t : List ℕ) (f : counts.bytes + length t ≤ limits.bytes + length_of words slot) where
  abbrev start : ℕ
  start = start_of words slot

  abbrev old : ℕ
  old = length_of words slot

  abbrev rest : ℕ
  rest = counts.bytes - start_of words slot - length_of words slot

  ends : start + old ≤ counts.bytes
  ends = text-ends limits counts words h slot m

  abbrev moved : List ℕ
  moved = bytes_moved limits counts words slot (length t)

  size-moved : length moved ≡ length words
  size-moved = size-bytes limits counts words h slot m (length t) f

  -- the ends from the slot on
  abbrev places : List ℕ
  places = map (moved_end old (length t)) (part slot (counts.slots - slot) moved)

  size-places : slot + length places ≡ counts.slots
  size-places =
      omega (
        arith,
        length-map (part slot (counts.slots - slot) moved) (moved_end old (length t)),
        length_part moved slot (counts.slots - slot) (omega (arith, size-moved, h.size, h.slots)),
      )

  abbrev given : List ℕ
  given = put slot places moved

  size-given : length given ≡ length words
  size-given = length-put moved slot places (omega (arith, size-places, size-moved, h.size, h.slots)) ∙ size-moved

  written : rewritten limits counts words slot t ≡ put (start_at limits words slot) t given
  unfolding roomed ends_moved
  written = refl

  pub size-written : length (rewritten limits counts words slot t) ≡ length words
  size-written = ap length written ∙ length-put given (start_at limits words slot) t (omega (arith, h.size, ends, size-given)) ∙ size-given

  pub ends-written : take counts.slots (rewritten limits counts words slot t)
      ≡ take slot (take counts.slots words) ++ map (moved_end (length_of words slot) (length t)) (drop slot (take counts.slots words))
  unfolding part bytes_moved
  ends-written =
      let e : counts.slots ≡ slot + (counts.slots - slot) = omega arith in
      ap (take counts.slots) written
      ∙ take-put-before given (start_at limits words slot) t counts.slots (omega (arith, h.slots)) (omega (arith, h.size, h.bytes, ends, size-given))
      ∙ ap (λ (n : ℕ). take n given) (sym size-places)
      ∙ take-put-through moved slot places (omega (arith, size-moved, h.size, h.slots))
      ∙ ap (λ (l : List ℕ). l ++ places)
      (take-put-before words (start_at limits words slot + length t) (part (start_at limits words slot + old) rest words) slot (omega (arith, h.slots)) (omega (arith, h.size, ends))
      ∙ sym (take-take slot counts.slots words (omega arith)))
      ∙ ap (λ (l : List ℕ). take slot (take counts.slots words) ++ map (moved_end old (length t)) l)
      (before-bytes limits counts words h slot m (length t) f slot (counts.slots - slot) (omega (arith, h.slots))
      ∙ sym (drop-take slot (counts.slots - slot) words)
      ∙ ap (λ (n : ℕ). drop slot (take n words)) (sym e))

  pub lengths-written : lengths_of (take counts.slots (rewritten limits counts words slot t)) ≡ set (lengths_of (take counts.slots words)) slot (length t)
  lengths-written =
      ap lengths_of ends-written
      ∙ lengths-moved old (length t) 0 counts.bytes (take counts.slots words) h.ends slot taken (sym (length-said limits counts words h slot m))
    where
      taken : slot < length (take counts.slots words)
      taken = omega (arith, length-take-le counts.slots words (omega (arith, h.slots, h.size)))

  pub reach-written : ends_reach 0 (take counts.slots (rewritten limits counts words slot t)) (counts.bytes - length_of words slot + length t) ≡ true
  unfolding moved_end
  reach-written =
      ap (λ (l : List ℕ). ends_reach 0 l (moved_end old (length t) counts.bytes)) ends-written
      ∙ reach-moved old (length t) 0 counts.bytes (take counts.slots words) h.ends slot taken (sym (length-said limits counts words h slot m))
    where
      taken : slot < length (take counts.slots words)
      taken = omega (arith, length-take-le counts.slots words (omega (arith, h.slots, h.size)))

  -- a part behind the ends and before the text is as it was
  between-written : (p n : ℕ) → counts.slots ≤ p → p + n ≤ start_at limits words slot → part p n (rewritten limits counts words slot t) ≡ part p n words
  unfolding bytes_moved
  between-written p n b g =
      ap (part p n) written
      ∙ part-put-before given (start_at limits words slot) t p n g (omega (arith, h.size, h.bytes, ends, size-given))
      ∙ part-put-after moved slot places p n (omega (arith, size-places)) (omega (arith, size-moved, h.size, h.slots))
      ∙ part-put-before words (start_at limits words slot + length t) (part (start_at limits words slot + old) rest words) p n (omega arith) (omega (arith, h.size, ends))

  -- the stack of released slots is as it was
  pub stack-written : (n : ℕ) → n ≤ limits.slots → part limits.slots n (rewritten limits counts words slot t) ≡ part limits.slots n words
  stack-written n g = between-written limits.slots n h.slots (omega arith)

  before-written : part (bytes_at limits) start (rewritten limits counts words slot t) ≡ part (bytes_at limits) start words
  before-written = between-written (bytes_at limits) start (omega (arith, h.slots)) (omega arith)

  here-written : part (start_at limits words slot) (length t) (rewritten limits counts words slot t) ≡ t
  here-written = ap (part (start_at limits words slot) (length t)) written ∙ part-put-same given (start_at limits words slot) t (omega (arith, h.size, h.bytes, ends, size-given))

  behind-written : part (start_at limits words slot + length t) rest (rewritten limits counts words slot t) ≡ part (start_at limits words slot + old) rest words
  unfolding bytes_moved
  behind-written =
      ap (part (start_at limits words slot + length t) rest) written
      ∙ part-put-after given (start_at limits words slot) t (start_at limits words slot + length t) rest (omega arith) (omega (arith, h.size, h.bytes, ends, size-given))
      ∙ part-put-after moved slot places (start_at limits words slot + length t) rest (omega (arith, size-places, h.slots)) (omega (arith, size-moved, h.size, h.slots))
      ∙ ap (λ (n : ℕ). part (start_at limits words slot + length t) n moved) (sym (size-behind limits counts words h slot m (length t) f))
      ∙ part-put-same words (start_at limits words slot + length t) (part (start_at limits words slot + old) rest words) (omega (arith, h.size, ends))

  behind-taken : sum (drop (suc slot) (lengths_of (take counts.slots words))) ≡ rest
  behind-taken =
      omega (
        arith,
        sum-split (lengths_of (take counts.slots words)) slot (rw (lengths-taken limits counts words h) m),
        start-added limits counts words h slot m,
        length_taken limits counts words h slot m,
        lengths-add limits counts words h,
      )

  pub texts-written : pieces (bytes_at limits) (lengths_of (take counts.slots (rewritten limits counts words slot t))) (rewritten limits counts words slot t)
      ≡ set (pieces (bytes_at limits) (lengths_of (take counts.slots words)) words) slot t
  texts-written =
      ap (λ (l : List ℕ). pieces (bytes_at limits) l (rewritten limits counts words slot t)) lengths-written
      ∙ pieces-set (bytes_at limits) slot (lengths_of (take counts.slots words)) words (rewritten limits counts words slot t) t (rw (lengths-taken limits counts words h) m)
      (rw (start-added limits counts words h slot m) before-written)
      (rw (start-added limits counts words h slot m) here-written)
      (rw (start-added limits counts words h slot m, length_taken limits counts words h slot m, behind-taken) behind-written)

  -- a text of equal length is written over, and no other word changes
  pub written-in-place : length t ≡ length_of words slot → rewritten limits counts words slot t ≡ put (start_at limits words slot) t words
  written-in-place e = ap (put (start_at limits words slot) t) (roomed-same limits counts words h slot m (length t) (sym e))
