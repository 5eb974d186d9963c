-- `texts::storing::reuse_slot` meets its contract: the top of the stack is a slot without bytes.
-- Assumes nothing.
use native.Mathlib.Omega.{arith}
use Rattle.texts.proofs.Held.{top-made, reused-to}
use Rattle.texts.proofs.storing.reuse_slot.Goals as goal

pub overflow_cast-slot : goal.overflow_cast-slot
overflow_cast-slot c =
    let a = c.args in
    omega (arith, top-made a.limits a.counts a.words.now c.requires.0 c.requires.1, c.requires.0.counted.slots)

pub put_text-requires : goal.put_text-requires
put_text-requires c =
    let a = c.args in
    (c.requires.0.counted, top-made a.limits a.counts a.words.now c.requires.0 c.requires.1, omega arith)

pub returns : goal.returns
returns c =
    let a = c.args in
    reused-to a.limits a.counts a.words.now c.requires.0 c.requires.1 a.text.now _ c.requires.2 c.requires.3 c.put_text.ensures.words_after
