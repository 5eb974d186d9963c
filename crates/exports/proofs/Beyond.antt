-- Numbers that no text, no name and no block of an arena has: those above 32 bits.
-- Assumes nothing.
use Rattle.words.specs.declared.TextSlot.{TextSlot}
use Rattle.std.specs.Prelude.{Option, None, Some}
use mathlib.Core.Path.{◌≡◌, refl, sym, ap, ◌∙◌}
use mathlib.Core.Bool.{Bool, true, false, ◌&&◌, cond}
use mathlib.Core.List.{List, []}
use Prim.Native.Nat.{ℕ, ◌+◌, ◌-◌, ◌≤◌, ◌<◌, min}
use native.Mathlib.Omega.{arith}
use native.Mathlib.Decide.{dec_lt}
use native.Mathlib.Nat.{min-le_right}
use lib.ListN.{length}
use lib.Dec.{eqb, leb}
use borrow.Author.Tests.{ne_eqb, lt-leb}
use Rattle.blocks.specs.Arena.{block, list_of}
use Rattle.records.specs.Records.{chars_of}
use Rattle.texts.proofs.Places.{shown-empty}
use Rattle.names.specs.Table.{Name, name}
use Rattle.names.specs.Words.{name_there, name_shown}
use Rattle.names.proofs.Words.{there-number, part-number}
use Rattle.model.specs.Kinds.{Which}
use Rattle.model.specs.Calls.{Answered, name_is, refused, name_of}
use Rattle.layout.specs.declared.Document.{Document}
use Rattle.layout.specs.Layout.{limits_of, memory_ok}
use Rattle.memory.specs.Decode.{slot_of, arena_used, arena_in, text_limits, text_counts, texts_part, name_limits, name_counts, names_part}
use Rattle.layout.specs.Record.{used_of}
use Rattle.layout.proofs.Sizes.{LimitsFit, limits-fit, entries_fit, memory-limits}
use Rattle.memory.proofs.Shown.{name-shown}
use Rattle.reading.specs.Answers.{text_in, name_part, entries_shown, text_bytes, name_bytes}
use Rattle.reading.specs.Contract.{reads}
use Rattle.exports.specs.Contract.{slot_told}

-- the slot that a text's word tells
pub slot-of : (w : ℕ) → slot_of (chars_of w) ≡ slot_told w
slot-of w = go (eqb w 0)
  where
    go : (t : Bool) → slot_of (cond t None (Some (record { 0 = w - 1 }))) ≡ cond t None (Some (w - 1))
    go true = refl
    go false = refl

module _ (d : Document) (mem : List ℕ) where
  fits : memory_ok d (length mem) ≡ true → LimitsFit (limits_of d.limits)
  fits h = limits-fit (limits_of d.limits) (memory-limits d (length mem) h)

  pub no-entries : (w : Which) (start len : ℕ) → 4294967296 ≤ start + len → [] ≡ entries_shown d mem w (block start len)
  unfolding entries_shown
  no-entries w start len h = go (memory_ok d (length mem)) refl
    where
      go : (t : Bool) → memory_ok d (length mem) ≡ t → [] ≡ cond (t && leb (start + len) (arena_used d w)) (list_of (arena_in d w mem) (block start len)) []
      go false q = refl
      go true q =
          let f = entries_fit (limits_of d.limits) (fits q) w in
          let m = arena-least w in
          rw (lt-leb (start + len) (arena_used d w) (omega arith))
        where
          arena-least : (v : Which) → arena_used d v ≤ (limits_of d.limits).entries v
          arena-least v = min-le_right (used_of d.counts v) ((limits_of d.limits).entries v)

  pub no_text : (w : ℕ) → 4294967296 < w → [] ≡ text_bytes d mem (slot_told w)
  unfolding text_bytes
  no_text w h = rw (ne_eqb w 0 (λ z. omega arith)) (go (memory_ok d (length mem)) refl)
    where
      go : (t : Bool) → memory_ok d (length mem) ≡ t → [] ≡ cond t (text_in d mem (Some (w - 1))) []
      go false q = refl
      go true q =
          let f = (fits q).texts in
          let m : min d.counts.texts d.limits.texts ≤ d.limits.texts = min-le_right d.counts.texts d.limits.texts in
          sym (shown-empty (text_limits d) (text_counts d) (w - 1) (texts_part d mem) (omega arith))

  pub text-told : (w : ℕ) (t : Option TextSlot) → t ≡ chars_of w → (r : List ℕ) → r ≡ text_bytes d mem (slot_of t) → r ≡ text_bytes d mem (slot_told w)
  text-told w t e r q = q ∙ ap (λ (x : Option ℕ). text_bytes d mem x) (ap slot_of e ∙ slot-of w)

  no_part : (n k : ℕ) → 4294967295 ≤ n → [] ≡ name_bytes d mem n k
  unfolding name_bytes
  no_part n k h = go (memory_ok d (length mem)) refl
    where
      go : (t : Bool) → memory_ok d (length mem) ≡ t → [] ≡ cond t (name_part d mem n k) []
      go false q = refl
      go true q =
          let f = (fits q).names in
          let m : min d.counts.names d.limits.names ≤ d.limits.names = min-le_right d.counts.names d.limits.names in
          sym (part-number (name_limits d) (name_counts d) (names_part d mem) n k (omega arith))

  -- ---- names

  -- a number, or the greatest of 32 bits in its place
  pub part-told : (m n k : ℕ) → m ≡ min n 4294967295 → (r : List ℕ) → r ≡ name_bytes d mem m k → r ≡ name_bytes d mem n k
  part-told m n k e r q = q ∙ go (dec_lt n 4294967295)
    where
      go : Dec (n < 4294967295) → name_bytes d mem m k ≡ name_bytes d mem n k
      go (yes h) = ap (λ (x : ℕ). name_bytes d mem x k) (omega arith)
      go (no h) = sym (no_part m k (omega arith)) ∙ no_part n k (omega arith)

  abbrev pair : ℕ → Name
  pair n = name (name_part d mem n 0) (name_part d mem n 1)

  -- `name` by whether there is one
  abbrev named : Bool → Bool → ℕ → Answered
  named ok there n = cond ok (name_is (cond there (Some (pair n)) None)) (refused 4)

  named-reads : (n : ℕ) → reads (name_of n) d mem ≡ named (memory_ok d (length mem)) (name_there (name_limits d) (name_counts d) n (names_part d mem)) n
  unfolding reads name_shown
  named-reads n = ap (λ (x : Option Name). cond (memory_ok d (length mem)) (name_is x) (refused 4)) (name-shown d mem n)

  no_name : (n : ℕ) → 4294967295 ≤ n → reads (name_of n) d mem ≡ cond (memory_ok d (length mem)) (name_is None) (refused 4)
  no_name n h = named-reads n ∙ go (memory_ok d (length mem)) refl
    where
      go : (t : Bool) → memory_ok d (length mem) ≡ t → named t (name_there (name_limits d) (name_counts d) n (names_part d mem)) n ≡ cond t (name_is None) (refused 4)
      go false q = refl
      go true q =
          let f = (fits q).names in
          let m : min d.counts.names d.limits.names ≤ d.limits.names = min-le_right d.counts.names d.limits.names in
          rw (there-number (name_limits d) (name_counts d) (names_part d mem) n (omega arith))

  pub name-told : (m n : ℕ) → m ≡ min n 4294967295 → (a : Answered) → a ≡ reads (name_of m) d mem → a ≡ reads (name_of n) d mem
  name-told m n e a q = q ∙ go (dec_lt n 4294967295)
    where
      go : Dec (n < 4294967295) → reads (name_of m) d mem ≡ reads (name_of n) d mem
      go (yes h) = ap (λ (x : ℕ). reads (name_of x) d mem) (omega arith)
      go (no h) = no_name m (omega arith) ∙ sym (no_name n (omega arith))

  -- a name that is shown is that of the number's own parts
  pub own_name : (n : ℕ) (p : Name) → name_is (Some p) ≡ reads (name_of n) d mem → name_is (Some (pair n)) ≡ reads (name_of n) d mem
  own_name n p e = go (memory_ok d (length mem)) (name_there (name_limits d) (name_counts d) n (names_part d mem)) (e ∙ named-reads n) ∙ sym (named-reads n)
    where
      go : (ok there : Bool) → name_is (Some p) ≡ named ok there n → name_is (Some (pair n)) ≡ named ok there n
      go true true q = refl
      go true false q = let zero_one : ◌≡◌ {A = ℕ} 0 1 = cc in absurd (omega arith)
      go false there q = let zero_one : ◌≡◌ {A = ℕ} 0 1 = cc in absurd (omega arith)
