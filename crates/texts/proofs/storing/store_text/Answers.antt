-- `texts::storing::store_text` meets its contract: no slot, the last released one, or a new one.
-- Assumes nothing.
use Rattle.std.proofs.Common.{◌≡◌, Bool, false, List, [], ◌∷◌, ℕ, ◌<◌, length, eqb, refl, sym, ◌∙◌, arith}
use mathlib.Core.Bool.{false≢true}
use borrow.Author.Tests.{eqb-true}
use Rattle.texts.specs.Pool.{slots_for}
use Rattle.texts.proofs.Held.{told, stored-nothing}
use Rattle.texts.proofs.storing.store_text.Goals as goal

one-slot : (t : List ℕ) → 0 < length t → slots_for t ≡ 1
one-slot [] h = absurd (omega arith)
one-slot (b ∷ t) h = refl

some_bytes : (t : List ℕ) (r : Bool) → r ≡ eqb (length t) 0 → r ≡ false → 0 < length t
some_bytes [] r e h = absurd (false≢true (sym h ∙ e))
some_bytes (b ∷ t) r e h = omega arith

pub returns-then-is_empty : goal.returns-then-is_empty
returns-then-is_empty c =
    let a = c.args in
    stored-nothing a.limits a.counts a.words.now c.requires.0 a.text.now (eqb-true _ _ (sym c.is_empty.ensures ∙ c.if-is_empty.true))

pub reuse_slot-requires : goal.reuse_slot-requires
reuse_slot-requires c =
    let a = c.args in
    let fits = told a.limits a.counts (slots_for a.text.now) 0 (length a.text.now) c.requires.1 in
    (c.requires.0, omega arith, some_bytes a.text.now c.is_empty.result c.is_empty.ensures c.if-is_empty.false, omega (arith, fits.1), c.requires.2)

pub new_slot-requires : goal.new_slot-requires
new_slot-requires c =
    let a = c.args in
    let fits = told a.limits a.counts (slots_for a.text.now) 0 (length a.text.now) c.requires.1 in
    let some = some_bytes a.text.now c.is_empty.result c.is_empty.ensures c.if-is_empty.false in
    (c.requires.0, omega arith, omega (arith, fits.0, one-slot a.text.now some), some, omega (arith, fits.1), c.requires.2)
