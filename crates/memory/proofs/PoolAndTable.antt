-- Lent parts of the pool and of the table, and the texts and names that are read from them.
-- Assumes nothing.
use Rattle.std.specs.Prelude.{Option, None, Some}
use mathlib.Core.Path.{◌≡◌, refl, sym, ap, ◌∙◌}
use mathlib.Core.Bool.{true}
use mathlib.Core.List.{List, []}
use Prim.Native.Nat.{ℕ, ◌+◌, ◌-◌, ◌*◌, ◌≤◌, ◌<◌}
use native.Mathlib.Omega.{arith}
use lib.ListN.{length, take, drop}
use Rattle.words.specs.Parts.{part}
use Rattle.words.proofs.Parts.{lent, length_part}
use Rattle.words.specs.declared.TextSlot.{TextSlot}
use Rattle.texts.specs.Pool.{text_at}
use Rattle.texts.specs.Words.{text_shown}
use Rattle.texts.specs.declared.TextLimits.{TextLimits}
use Rattle.texts.specs.declared.TextCounts.{TextCounts}
use Rattle.names.specs.declared.NameLimits.{NameLimits}
use Rattle.layout.specs.declared.Document.{Document}
use Rattle.layout.specs.Layout.{limits_of, texts_at, names_at, memory_ok}
use Rattle.memory.specs.Decode.{slot_of, text_limits, text_counts, texts_part, name_limits, names_part, pool_in}
use Rattle.memory.specs.Stored.{text_in}
use Rattle.layout.proofs.Sizes.{memory-limits, memory-long, limits-fit, words-fit, texts-next, names-next, words-next}
use Rattle.memory.proofs.Shown.{text-shown}

-- the document's texts are those that the words show
pub texts-shown : (d : Document) (mem : List ℕ) (t : Option ℕ) → text_at (pool_in d mem) t ≡ text_in d mem t
texts-shown d mem None = refl
texts-shown d mem (Some s) = text-shown d mem s

-- ---- the parts of the pool and of the table

pub record Ends (d : Document) (mem : ℕ) : Type 0 where
  pub texts : texts_at (limits_of d.limits) + (2 * d.limits.texts + d.limits.textbytes) ≤ mem
  pub names : names_at (limits_of d.limits) + (2 * d.limits.names + d.limits.namebytes) ≤ mem
  pub texts-narrow : texts_at (limits_of d.limits) + (2 * d.limits.texts + d.limits.textbytes) < 4294967296
  pub names-narrow : names_at (limits_of d.limits) + (2 * d.limits.names + d.limits.namebytes) < 4294967296

pub ends : (d : Document) (mem : ℕ) → memory_ok d mem ≡ true → Ends d mem
ends d mem h =
    let l = limits_of d.limits in
    let f = words-fit l (limits-fit l (memory-limits d mem h)) in
    let long = memory-long d mem h in
    let t = texts-next l in
    let n = names-next l in
    let w = words-next l in
    record { texts = omega arith; names = omega arith; texts-narrow = omega arith; names-narrow = omega arith }

module _ (d : Document) (mem : List ℕ) where
  pub texts-lent : (start stop : ℕ) → start ≡ texts_at (limits_of d.limits) → stop ≡ start + (2 * d.limits.texts + d.limits.textbytes)
      → take (stop - start) (drop start mem) ≡ texts_part d mem
  texts-lent start stop e es = rw es (lent mem start (2 * d.limits.texts + d.limits.textbytes)) ∙ ap (λ (a : ℕ). part a (2 * d.limits.texts + d.limits.textbytes) mem) e

  pub names-lent : (start stop : ℕ) → start ≡ names_at (limits_of d.limits) → stop ≡ start + (2 * d.limits.names + d.limits.namebytes)
      → take (stop - start) (drop start mem) ≡ names_part d mem
  names-lent start stop e es = rw es (lent mem start (2 * d.limits.names + d.limits.namebytes)) ∙ ap (λ (a : ℕ). part a (2 * d.limits.names + d.limits.namebytes) mem) e

  -- the limits, the counts and the words that a lower reader is handed
  module _ (l : TextLimits) (w : List ℕ) (e : l ≡ text_limits d) (q : w ≡ texts_part d mem) where
    pub texts-length : memory_ok d (length mem) ≡ true → length w ≡ l.slots + l.slots + l.bytes
    texts-length ok =
        let z = ends d (length mem) ok in
        let n : length w ≡ d.limits.texts + d.limits.texts + d.limits.textbytes =
        ap length q ∙ length_part mem (texts_at (limits_of d.limits)) (2 * d.limits.texts + d.limits.textbytes) z.texts ∙ omega arith in
        n ∙ sym (ap (λ (k : TextLimits). k.slots + k.slots + k.bytes) e)

    pub text-of : (n : TextCounts) (s : ℕ) (r : List ℕ) → n ≡ text_counts d → r ≡ text_shown l n s w → r ≡ text_in d mem (Some s)
    text-of n s r k h =
        h
        ∙ ap (λ (x : TextLimits). text_shown x n s w) e
        ∙ ap (λ (x : TextCounts). text_shown (text_limits d) x s w) k
        ∙ ap (text_shown (text_limits d) (text_counts d) s) q

  module _ (l : NameLimits) (w : List ℕ) (e : l ≡ name_limits d) (q : w ≡ names_part d mem) where
    pub names-length : memory_ok d (length mem) ≡ true → length w ≡ l.names + l.names + l.bytes
    names-length ok =
        let z = ends d (length mem) ok in
        let n : length w ≡ d.limits.names + d.limits.names + d.limits.namebytes =
        ap length q ∙ length_part mem (names_at (limits_of d.limits)) (2 * d.limits.names + d.limits.namebytes) z.names ∙ omega arith in
        n ∙ sym (ap (λ (k : NameLimits). k.names + k.names + k.bytes) e)

-- a text field
module _ (d : Document) (mem : List ℕ) (t : Option TextSlot) where
  pub field-empty : t ≡ None → [] ≡ text_in d mem (slot_of t)
  field-empty e = sym (ap (λ (x : Option TextSlot). text_in d mem (slot_of x)) e)

  pub field-slot : (s : TextSlot) → t ≡ Some s → (r : List ℕ) → r ≡ text_in d mem (Some s.0) → r ≡ text_in d mem (slot_of t)
  field-slot s e r q = q ∙ sym (ap (λ (x : Option TextSlot). text_in d mem (slot_of x)) e)
