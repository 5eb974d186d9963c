-- `texts::storing::replace_text` meets its contract.
-- Assumes nothing.
use mathlib.Core.Path.{◌≡◌}
use mathlib.Core.List.{List}
use Prim.Native.Nat.{ℕ, ◌+◌, ◌-◌, ◌≤◌, ◌<◌}
use native.Mathlib.Omega.{arith}
use lib.ListN.{length}
use Rattle.words.specs.Ends.{length_of}
use Rattle.texts.specs.Words.{Counted, rewritten, ReplacedTo}
use Rattle.texts.specs.declared.TextLimits.{TextLimits}
use Rattle.texts.specs.declared.TextCounts.{TextCounts}
use Rattle.texts.proofs.Words.{text-ends}
use Rattle.texts.proofs.Held.{told, replaced-to}
use Rattle.texts.proofs.storing.replace_text.Goals as goal

done : (limits : TextLimits) (counts : TextCounts) (words : List ℕ) → Counted limits counts words → (slot : ℕ) → slot < counts.slots → (t : List ℕ)
    → counts.bytes + length t ≤ limits.bytes + length_of words slot → (old : ℕ) (after : List ℕ) → old ≡ length_of words slot → after ≡ rewritten limits counts words slot t
    → ReplacedTo limits counts words after slot t (record { slots = counts.slots; free = counts.free; bytes = counts.bytes - old + length t })
done limits counts words h slot m t f old after e g = rw e (replaced-to limits counts words h slot m t f after g)

pub put_text-old-requires : goal.put_text-old-requires
put_text-old-requires c =
    let a = c.args in
    (c.requires.0, c.requires.1, (told a.limits a.counts 0 (length_of a.words.now a.slot.0) (length a.text.now) c.requires.2).1)

pub overflow_sub-bytes : goal.overflow_sub-bytes
overflow_sub-bytes c =
    let a = c.args in
    omega (arith, text-ends a.limits a.counts a.words.now c.requires.0 a.slot.0 c.requires.1, c.put_text-old.ensures.value)

pub returns : goal.returns
returns c =
    let a = c.args in
    let written = c.put_text-old in
    done a.limits a.counts a.words.now c.requires.0 a.slot.0 c.requires.1 a.text.now
    (told a.limits a.counts 0 (length_of a.words.now a.slot.0) (length a.text.now) c.requires.2).1 written.result _ written.ensures.value written.ensures.words_after
