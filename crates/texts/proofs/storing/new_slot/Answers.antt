-- `texts::storing::new_slot` meets its contract: the end behind the others, the bytes behind those used.
-- Assumes nothing.
use native.Mathlib.Omega.{arith}
use lib.ListN.{length-set}
use Rattle.texts.proofs.Held.{new-to}
use Rattle.texts.proofs.storing.new_slot.Goals as goal

pub write_bytes-requires : goal.write_bytes-requires
write_bytes-requires c = simp length-set (omega arith)

pub shape_of-words : goal.shape_of-words
shape_of-words c = omega (arith, simp length-set at c.write_bytes.auto.words)

pub returns : goal.returns
returns c =
    let a = c.args in
    new-to a.limits a.counts a.words.now c.requires.0 c.requires.1 c.requires.2 a.text.now _ c.requires.3 c.requires.4 c.write_bytes.ensures
