-- `slots::slot::take_slot` meets its contract. That the top of the stack is a slot, with a generation of 32 bits, is rules 2 and 1, which are asked.
-- Assumes nothing.
use Rattle.std.proofs.Common.{refl, arith}
use Rattle.slots.proofs.Slots.{top, reused, new-slot, minted}
use Rattle.slots.proofs.slot.take_slot.Goals as goal

pub overflow_cast-index : goal.overflow_cast-index
overflow_cast-index c = omega (arith, (top _ _ _ _ c.requires c.if-free-gt0.true).narrow)

pub raise-generation-requires : goal.raise-generation-requires
raise-generation-requires c = let t = top _ _ _ _ c.requires c.if-free-gt0.true in
    (c.requires.long, t.slot, t.generation)

pub returns-then-free-gt0 : goal.returns-then-free-gt0
returns-then-free-gt0 c = reused _ _ _ _ c.if-free-gt0.true _ _ _ refl c.raise-generation.ensures

pub bounds-words-made : goal.bounds-words-made
bounds-words-made c = omega (arith, new-slot _ _ _ _ c.requires c.if-free-gt0.false)

pub overflow_cast-result : goal.overflow_cast-result
overflow_cast-result c = omega (arith, new-slot _ _ _ _ c.requires c.if-free-gt0.false)

pub returns : goal.returns
returns c = minted _ _ _ _ c.if-free-gt0.false
