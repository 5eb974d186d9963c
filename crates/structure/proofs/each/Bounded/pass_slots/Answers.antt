-- `structure::each::Bounded::pass_slots` meets its contract.
-- Assumes nothing.
use mathlib.Core.Path.{refl}
use native.Mathlib.Omega.{arith}
use Rattle.structure.proofs.Turns.{sofar-none, sofar-next, sofar-not, sofar-all}
use Rattle.structure.proofs.each.Bounded.pass_slots.Goals as goal

pub loop-s-init : goal.loop-s-init
loop-s-init c =
    let v = c.args.self.now.nodes.view in
    (refl, sofar-none v.document v.words.now c.args.scratch.now c.requires.1)

pub returns-then-not-pass_slot : goal.returns-then-not-pass_slot
returns-then-not-pass_slot c =
    let v = c.args.self.now.nodes.view in
    sofar-not v.document v.words.now _ _ _ _ c.loop-s.invariant.1 c.pass_slot.ensures _ c.made-s-end.ensures (omega arith) c.if-not-pass_slot.true

pub loop-s-preserved : goal.loop-s-preserved
loop-s-preserved c =
    let v = c.args.self.now.nodes.view in
    (omega (arith, c.loop-s.invariant.0), sofar-next v.document v.words.now _ _ _ _ c.loop-s.invariant.1 c.pass_slot.ensures _ c.made-s-end.ensures (omega arith) c.if-not-pass_slot.false)

pub returns : goal.returns
returns c =
    let v = c.args.self.now.nodes.view in
    sofar-all v.document v.words.now _ _ c.loop-s.invariant.1 _ c.made-s-end.ensures (omega arith)
