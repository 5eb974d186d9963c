-- Where a text is shown to lie, in memory that may be damaged.
-- Assumes nothing.
use mathlib.Core.Path.{◌≡◌}
use mathlib.Core.List.{List, []}
use Prim.Native.Nat.{ℕ, ◌+◌, ◌≤◌, min}
use Rattle.words.specs.Parts.{part}
use Rattle.words.specs.declared.ends.Place.{Place}
use Rattle.words.proofs.Places as place
use Rattle.texts.specs.Words.{bytes_at, place_shown, text_shown}
use Rattle.texts.specs.declared.TextLimits.{TextLimits}
use Rattle.texts.specs.declared.TextCounts.{TextCounts}

module _ (limits : TextLimits) (counts : TextCounts) (slot : ℕ) (words : List ℕ) where
  abbrev count : ℕ
  count = min counts.slots limits.slots

  abbrev used : ℕ
  used = min counts.bytes limits.bytes

  pub shown-nowhere : min counts.slots limits.slots ≤ slot → place_shown limits counts slot words ≡ record { start = 0; len = 0 }
  unfolding place_shown
  shown-nowhere h = place.place-nowhere count used slot words (place.there-number count used slot words h)

  -- the text at a place that is shown
  pub shown-at : (p : Place) → place_shown limits counts slot words ≡ p → text_shown limits counts slot words ≡ part (bytes_at limits + p.start) p.len words
  unfolding place_shown text_shown
  shown-at p e = place.shown-at count used slot words (bytes_at limits) p e

  pub shown-empty : min counts.slots limits.slots ≤ slot → text_shown limits counts slot words ≡ []
  unfolding text_shown
  shown-empty h = place.shown-nothing count used slot words (bytes_at limits) (place.there-number count used slot words h)
