-- The words of a text pool: an end for each text slot that the limit allows, as many words for the stack of released slots, then the bytes, one a word.
use Rattle.std.specs.Prelude.{◌≡◌, Bool, true, ◌&&◌, cond, List, [], ◌∷◌, map, reverse, ℕ, ◌+◌, ◌-◌, ◌≤◌, ◌<◌, min, length, get_or, set, take, eqb, ltb, leb, Option, None, Some}
use Rattle.words.specs.Parts.{part, put}
use Rattle.words.specs.declared.TextSlot.{TextSlot}
use Rattle.words.specs.Lists.{all, count_of}
use Rattle.words.specs.Pieces.{pieces}
use Rattle.words.specs.declared.ends.Place.{Place}
use Rattle.words.specs.Ends.{start_of, length_of, lengths_of, ends_of, ends_reach, moved_end, piece_place, piece_shown}
use Rattle.texts.specs.Pool.{Pool, bytes_of, stored_slot, stored, replaced, pushed, reclaimed}
use Rattle.texts.specs.Rule.{FreeTexts}
use Rattle.texts.specs.declared.storing.Stored.{Stored}
use Rattle.texts.specs.declared.TextLimits.{TextLimits}
use Rattle.texts.specs.declared.TextCounts.{TextCounts}

-- where the bytes begin
abbrev pub bytes_at : TextLimits → ℕ
bytes_at limits = limits.slots + limits.slots

-- the pool that the words hold: "texts joined without gaps in slot order", and the stack from its top down
unfoldable pub pool_of : TextLimits → TextCounts → List ℕ → Pool
pool_of limits counts words =
    record { texts = pieces (bytes_at limits) (lengths_of (take counts.slots words)) words; free = reverse (part limits.slots counts.free words) }

-- structure rules 1 and 8: "Counts are within limits", "text .. lengths add to the bytes used"
pub record Counted (limits : TextLimits) (counts : TextCounts) (words : List ℕ) : Type 0 where
  pub size : length words ≡ bytes_at limits + limits.bytes
  pub slots : counts.slots ≤ limits.slots
  pub free : counts.free ≤ limits.slots
  pub bytes : counts.bytes ≤ limits.bytes
  pub ends : ends_reach 0 (take counts.slots words) counts.bytes ≡ true

-- and with them what the pool can say of its free list
pub record PoolHeld (limits : TextLimits) (counts : TextCounts) (words : List ℕ) : Type 0 where
  pub counted : Counted limits counts words
  pub texts : FreeTexts (pool_of limits counts words)

-- the same as a test, of words as long as the limits say: an entry of the stack is a slot that was made, of length 0
abbrev pub free_ok : ℕ → List ℕ → ℕ → Bool
free_ok made words s = ltb s made && eqb (get_or words s 0) (start_of words s)

unfoldable pub pool_ok : TextLimits → TextCounts → List ℕ → Bool
pool_ok limits counts words =
    leb counts.slots limits.slots
    && (leb counts.free limits.slots
    && (leb counts.bytes limits.bytes
    && (ends_reach 0 (take counts.slots words) counts.bytes && all (free_ok counts.slots words) (part limits.slots counts.free words))))

-- what counting needs: each entry has a mark, and no mark can grow past its word
pub record Markable (l marks : List ℕ) : Type 0 where
  pub inside : (i : ℕ) → i < length l → get_or l i 0 < length marks
  pub small : (s : ℕ) → get_or marks s 0 + length l < 18446744073709551616

-- how often each slot stands in the stack, added to the marks, for whoever counts owners
abbrev pub marked : List ℕ → List ℕ → List ℕ
marked [] marks = marks
marked (s ∷ l) marks = marked l (set marks s (get_or marks s 0 + 1))

-- ---- reading, also in damaged memory: "a count above its limit reads as the limit", "an empty text .. for a number outside its table or bytes outside their pool"

-- where the text of a slot lies, counted from the first byte
unfoldable pub place_shown : TextLimits → TextCounts → ℕ → List ℕ → Place
place_shown limits counts slot words = piece_place (min counts.slots limits.slots) (min counts.bytes limits.bytes) slot words

unfoldable pub text_shown : TextLimits → TextCounts → ℕ → List ℕ → List ℕ
text_shown limits counts slot words = piece_shown (bytes_at limits) (min counts.slots limits.slots) (min counts.bytes limits.bytes) slot words

-- ---- Full, of counts within their limits: `texts_fit` of the pool

unfoldable pub counts_fit : TextLimits → TextCounts → ℕ → ℕ → ℕ → Bool
counts_fit limits counts k off on = leb (counts.slots + k) (limits.slots + counts.free) && leb (counts.bytes + on) (limits.bytes + off)

-- ---- edits: what the words are after the steps of an edit

-- where the text of a slot begins
abbrev pub start_at : TextLimits → List ℕ → ℕ → ℕ
start_at limits words slot = bytes_at limits + start_of words slot

-- what moving these ends asks: none falls below 0, and none grows past its word
pub record Movable (ends : List ℕ) (old len : ℕ) : Type 0 where
  pub low : (i : ℕ) → i < length ends → old ≤ get_or ends i 0
  pub small : (i : ℕ) → i < length ends → get_or ends i 0 - old + len < 18446744073709551616

-- the ends moved
unfoldable pub ends_moved : List ℕ → ℕ → ℕ → ℕ → ℕ → List ℕ
ends_moved words slot n old len = put slot (map (moved_end old len) (part slot n words)) words

-- the bytes behind the text of a slot moved, to where it ends with len bytes
unfoldable pub bytes_moved : TextLimits → TextCounts → List ℕ → ℕ → ℕ → List ℕ
bytes_moved limits counts words slot len =
    put (start_at limits words slot + len) (part (start_at limits words slot + length_of words slot) (counts.bytes - start_of words slot - length_of words slot) words) words

-- the text of a slot given room for len bytes
unfoldable pub roomed : TextLimits → TextCounts → List ℕ → ℕ → ℕ → List ℕ
roomed limits counts words slot len = ends_moved (bytes_moved limits counts words slot len) slot (counts.slots - slot) (length_of words slot) len

-- and written there
abbrev pub rewritten : TextLimits → TextCounts → List ℕ → ℕ → List ℕ → List ℕ
rewritten limits counts words slot t = put (start_at limits words slot) t (roomed limits counts words slot (length t))

-- ---- what the edits promise. Bytes beyond those used are left open.

-- a text field as the code answers it
abbrev pub field_of : Option TextSlot → Option ℕ
field_of None = None
field_of (Some s) = Some s.0

pub record StoredTo (limits : TextLimits) (counts : TextCounts) (words after t : List ℕ) (r : Stored) : Type 0 where
  pub field : field_of r.field ≡ stored_slot (pool_of limits counts words) t
  pub pool : pool_of limits r.counts after ≡ stored (pool_of limits counts words) t
  pub counted : Counted limits r.counts after

pub record ReplacedTo (limits : TextLimits) (counts : TextCounts) (words after : List ℕ) (slot : ℕ) (t : List ℕ) (r : TextCounts) : Type 0 where
  pub pool : pool_of limits r after ≡ replaced (pool_of limits counts words) (Some slot) t
  pub counted : Counted limits r after
  -- a text of equal length is written over: no other word changes
  pub in_place : length t ≡ length_of words slot → after ≡ put (start_at limits words slot) t words

pub record PushedTo (limits : TextLimits) (counts : TextCounts) (words after : List ℕ) (slot : ℕ) (r : TextCounts) : Type 0 where
  pub pool : pool_of limits r after ≡ pushed (pool_of limits counts words) (Some slot)
  pub counted : Counted limits r after

-- ---- the bytes of the texts on the stack are given back

-- the text of a slot without a mark; one with a mark is empty
abbrev pub kept_text : List ℕ → List (List ℕ) → ℕ → List ℕ
kept_text marks ts s = cond (eqb (get_or marks s 0) 0) (get_or ts s []) []

-- these texts from slot 0 on, with the first byte at index base: their ends, and their bytes joined
unfoldable pub laid : ℕ → List (List ℕ) → List ℕ → List ℕ
laid base ts words = put base (bytes_of ts) (put 0 (ends_of ts) words)

-- what is asked: each entry of the stack is a slot that was made, whatever its text
pub record Reclaimable (limits : TextLimits) (counts : TextCounts) (words : List ℕ) : Type 0 where
  pub counted : Counted limits counts words
  pub made : (s : ℕ) → 0 < count_of (eqb s) (pool_of limits counts words).free → s < counts.slots

pub record ReclaimedTo (limits : TextLimits) (counts : TextCounts) (words after : List ℕ) (r : TextCounts) : Type 0 where
  pub pool : pool_of limits r after ≡ reclaimed (pool_of limits counts words)
  pub counted : Counted limits r after
