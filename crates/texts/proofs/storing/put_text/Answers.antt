-- `texts::storing::put_text` meets its contract: room is made, then the bytes are written.
-- Assumes nothing.
use mathlib.Core.Path.{◌≡◌, ap}
use mathlib.Core.List.{List}
use Prim.Native.Nat.{ℕ}
use native.Mathlib.Omega.{arith}
use lib.ListN.{length}
use Rattle.words.specs.Parts.{put}
use Rattle.words.specs.declared.ends.Place.{Place}
use Rattle.words.specs.Ends.{length_of}
use Rattle.texts.specs.Words.{start_at, roomed, rewritten}
use Rattle.texts.specs.declared.TextLimits.{TextLimits}
use Rattle.texts.specs.declared.TextCounts.{TextCounts}
use Rattle.texts.proofs.Words.{text-ends}
use Rattle.texts.proofs.storing.put_text.Goals as goal

module _ (limits : TextLimits) (counts : TextCounts) (words : List ℕ) (slot : ℕ) (room : Place) (e : room ≡ record { start = start_at limits words slot; len = length_of words slot }) where
  starts : room.start ≡ start_at limits words slot
  starts = ap (λ (p : Place). p.start) e

  written : (t roomy after : List ℕ) → roomy ≡ roomed limits counts words slot (length t) → after ≡ put room.start t roomy
      → (room.len ≡ length_of words slot) × (after ≡ rewritten limits counts words slot t)
  written t roomy after f g = (ap (λ (p : Place). p.len) e, rw (starts, f) at g)

pub write_bytes-requires : goal.write_bytes-requires
write_bytes-requires c =
    let a = c.args in
    let made = c.make_room-room in
    omega (arith, text-ends a.limits a.counts a.words.now c.requires.0 a.slot.0 c.requires.1, starts a.limits a.counts a.words.now a.slot.0 made.result made.ensures.value)

pub returns : goal.returns
returns c =
    let a = c.args in
    let made = c.make_room-room in
    let q = written a.limits a.counts a.words.now a.slot.0 made.result made.ensures.value a.text.now _ _ made.ensures.words_after c.write_bytes.ensures in
    record { value = q.0; words_after = q.1 }
