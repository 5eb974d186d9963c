-- `texts::storing::make_room` meets its contract.
-- Assumes nothing.
use mathlib.Core.Path.{◌≡◌, sym, ap, ◌∙◌}
use mathlib.Core.List.{List, map}
use Prim.Native.Nat.{ℕ, ◌+◌, ◌-◌, ◌≤◌, ◌<◌}
use native.Mathlib.Omega.{arith}
use lib.ListN.{length, get_or, length-map}
use borrow.Rule.Slice.PartMut.{put_mid}
use Rattle.words.specs.Parts.{part, put}
use Rattle.words.proofs.Parts.{length_part, put_back}
use Rattle.words.specs.declared.ends.Place.{Place}
use Rattle.words.specs.Ends.{start_of, length_of, moved_end}
use Rattle.texts.specs.Words.{bytes_at, Counted, start_at, Movable, ends_moved, bytes_moved, roomed}
use Rattle.texts.specs.declared.TextLimits.{TextLimits}
use Rattle.texts.specs.declared.TextCounts.{TextCounts}
use Rattle.texts.proofs.Words.{text-rises, text-within}
use Rattle.texts.proofs.Written.{size-bytes, ends-movable, roomed-same}
use Rattle.texts.proofs.storing.make_room.Goals as goal

module _ (limits : TextLimits) (counts : TextCounts) (words : List ℕ) (slot start : ℕ) (h : Counted limits counts words) (m : slot < counts.slots)
    (e : start ≡ start_of words slot) where
  -- the text lies among the bytes used
  begins : (start ≤ get_or words slot 0) × (get_or words slot 0 ≤ counts.bytes)
  begins = (omega (arith, text-rises limits counts words h slot m), text-within limits counts words h slot m)

  held : get_or words slot 0 - start ≡ length_of words slot
  unfolding length_of
  held = ap (λ (n : ℕ). get_or words slot 0 - n) e

  room : ◌≡◌ {A = Place} (record { start = bytes_at limits + start; len = get_or words slot 0 - start }) (record { start = start_at limits words slot; len = length_of words slot })
  room = λ i. record { start = bytes_at limits + e i; len = held i }

  module _ (len : ℕ) where
    -- the bytes behind the text, copied to behind its new end
    abbrev Copied : List ℕ → Type 0
    Copied moved =
        moved ≡ put (bytes_at limits + start + len) (part (bytes_at limits + start + (get_or words slot 0 - start)) (counts.bytes - start - (get_or words slot 0 - start)) words) words

    bytes-moved : (moved : List ℕ) → Copied moved → moved ≡ bytes_moved limits counts words slot len
    unfolding bytes_moved
    bytes-moved moved q =
        q
        ∙ (λ i. put (bytes_at limits + e i + len) (part (bytes_at limits + e i + held i) (counts.bytes - e i - held i) words) words)

    movable : counts.bytes + len ≤ limits.bytes + length_of words slot → limits.bytes < 18446744073709551616 → (moved : List ℕ) → Copied moved
        → Movable (part slot (counts.slots - slot) moved) (get_or words slot 0 - start) len
    movable f w moved q = rw (bytes-moved moved q, held) (ends-movable limits counts words h slot m len f w)

    done : (moved ends : List ℕ) → Copied moved → counts.bytes + len ≤ limits.bytes + length_of words slot
        → ends ≡ map (moved_end (get_or words slot 0 - start) len) (part slot (counts.slots - slot) moved)
        → put_mid slot (counts.slots - slot) moved ends ≡ roomed limits counts words slot len
    unfolding roomed ends_moved
    done moved ends q f g =
        let size : length moved ≡ length words = ap length (bytes-moved moved q) ∙ size-bytes limits counts words h slot m len f in
        let count : length ends ≡ counts.slots - slot =
        ap length g ∙ length-map (part slot (counts.slots - slot) moved) (moved_end (get_or words slot 0 - start) len)
        ∙ length_part moved slot (counts.slots - slot) (omega (arith, size, h.size, h.slots)) in
        put_back moved slot ends (counts.slots - slot) count
        ∙ ap (λ (vs : List ℕ). put slot vs moved) g
        ∙ (λ i. ends_moved (bytes-moved moved q i) slot (counts.slots - slot) (held i) len)

    none-moved : get_or words slot 0 - start ≡ len → words ≡ roomed limits counts words slot len
    none-moved q = sym (roomed-same limits counts words h slot m len (sym held ∙ q))

pub overflow_sub-old : goal.overflow_sub-old
overflow_sub-old c =
    let a = c.args in
    let told = c.piece_start-start in
    omega (arith, begins a.limits a.counts a.words.now a.slot.0 told.result c.requires.0 c.requires.1 told.ensures)

pub overflow_add-at : goal.overflow_add-at
overflow_add-at c =
    let a = c.args in
    let told = c.piece_start-start in
    omega (arith, begins a.limits a.counts a.words.now a.slot.0 told.result c.requires.0 c.requires.1 told.ensures)

pub overflow_add-at-2 : goal.overflow_add-at-2
overflow_add-at-2 c =
    let a = c.args in
    let told = c.piece_start-start in
    omega (arith, begins a.limits a.counts a.words.now a.slot.0 told.result c.requires.0 c.requires.1 told.ensures)

pub overflow_sub-counts : goal.overflow_sub-counts
overflow_sub-counts c =
    let a = c.args in
    let told = c.piece_start-start in
    omega (arith, begins a.limits a.counts a.words.now a.slot.0 told.result c.requires.0 c.requires.1 told.ensures)

pub overflow_sub-counts-then-old-len : goal.overflow_sub-counts-then-old-len
overflow_sub-counts-then-old-len c =
    let a = c.args in
    let told = c.piece_start-start in
    omega (arith, begins a.limits a.counts a.words.now a.slot.0 told.result c.requires.0 c.requires.1 told.ensures)

pub overflow_add-at-then-old-len : goal.overflow_add-at-then-old-len
overflow_add-at-then-old-len c =
    let a = c.args in
    let told = c.piece_start-start in
    omega (arith, begins a.limits a.counts a.words.now a.slot.0 told.result c.requires.0 c.requires.1 told.ensures, held a.limits a.counts a.words.now a.slot.0 told.result c.requires.0 c.requires.1 told.ensures)

pub overflow_add-at-then-old-len-2 : goal.overflow_add-at-then-old-len-2
overflow_add-at-then-old-len-2 c =
    let a = c.args in
    let told = c.piece_start-start in
    omega (arith, begins a.limits a.counts a.words.now a.slot.0 told.result c.requires.0 c.requires.1 told.ensures, held a.limits a.counts a.words.now a.slot.0 told.result c.requires.0 c.requires.1 told.ensures)

pub copy-requires : goal.copy-requires
copy-requires c =
    let a = c.args in
    let told = c.piece_start-start in (
      omega (arith, begins a.limits a.counts a.words.now a.slot.0 told.result c.requires.0 c.requires.1 told.ensures, c.requires.0.bytes, c.requires.0.size),
      omega (arith, begins a.limits a.counts a.words.now a.slot.0 told.result c.requires.0 c.requires.1 told.ensures, held a.limits a.counts a.words.now a.slot.0 told.result c.requires.0 c.requires.1 told.ensures, c.requires.2, c.requires.0.bytes, c.requires.0.size),
    )

pub move_ends-requires : goal.move_ends-requires
unfolding part
move_ends-requires c =
    let a = c.args in
    let told = c.piece_start-start in
    movable a.limits a.counts a.words.now a.slot.0 told.result c.requires.0 c.requires.1 told.ensures a.len c.requires.2 (omega arith) _ c.copy.ensures

pub returns-then-old-len : goal.returns-then-old-len
unfolding part
returns-then-old-len c =
    let a = c.args in
    let told = c.piece_start-start in
    record { value = room a.limits a.counts a.words.now a.slot.0 told.result c.requires.0 c.requires.1 told.ensures; words_after = done a.limits a.counts a.words.now a.slot.0 told.result c.requires.0 c.requires.1 told.ensures a.len _ _ c.copy.ensures c.requires.2 c.move_ends.ensures }

pub returns-else-old-len : goal.returns-else-old-len
returns-else-old-len c =
    let a = c.args in
    let told = c.piece_start-start in
    record { value = room a.limits a.counts a.words.now a.slot.0 told.result c.requires.0 c.requires.1 told.ensures; words_after = none-moved a.limits a.counts a.words.now a.slot.0 told.result c.requires.0 c.requires.1 told.ensures a.len c.if-old-len.false }
