-- `releasing::release::close_gaps` meets its contract.
-- Assumes nothing.
use Prim.Native.Nat.{◌+◌}
use native.Mathlib.Omega.{arith}
use Rattle.releasing.proofs.Gaps.{closing-first, end-above, kept-inside, closing-next, closed}
use Rattle.releasing.proofs.release.close_gaps.Goals as goal

pub loop-slot-init : goal.loop-slot-init
loop-slot-init c =
    let a = c.args in
    closing-first a.words.now a.marks.now a.counts.slots (a.limits.slots + a.limits.slots)

pub overflow_sub-end : goal.overflow_sub-end
overflow_sub-end c =
    let l = c.loop-slot in
    let a = c.args in
    end-above a.limits a.counts a.words.now c.requires.0 a.marks.now l.words l.slot l.from l.to l.invariant c.loop-slot-test.true

pub overflow_add-base-in-loop-slot : goal.overflow_add-base-in-loop-slot
overflow_add-base-in-loop-slot c =
    let l = c.loop-slot in
    let a = c.args in
    omega (arith, kept-inside a.limits a.counts a.words.now c.requires.0 a.marks.now l.words l.slot l.from l.to l.invariant c.loop-slot-test.true c.kept_length-kept.result c.kept_length-kept.ensures)

pub overflow_add-base-in-loop-slot-2 : goal.overflow_add-base-in-loop-slot-2
overflow_add-base-in-loop-slot-2 c =
    let l = c.loop-slot in
    let a = c.args in
    omega (arith, kept-inside a.limits a.counts a.words.now c.requires.0 a.marks.now l.words l.slot l.from l.to l.invariant c.loop-slot-test.true c.kept_length-kept.result c.kept_length-kept.ensures)

pub copy-requires : goal.copy-requires
copy-requires c =
    let l = c.loop-slot in
    let a = c.args in
    let within = kept-inside a.limits a.counts a.words.now c.requires.0 a.marks.now l.words l.slot l.from l.to l.invariant c.loop-slot-test.true c.kept_length-kept.result c.kept_length-kept.ensures in
    (within, omega (arith, within, l.invariant.lower))

pub loop-slot-preserved : goal.loop-slot-preserved
loop-slot-preserved c =
    let l = c.loop-slot in
    let a = c.args in
    let k = c.kept_length-kept in
    closing-next a.limits a.counts a.words.now c.requires.0 a.marks.now l.words l.slot l.from l.to l.invariant (omega arith) k.result k.ensures _ c.copy.ensures

pub returns : goal.returns
returns c =
    let l = c.loop-slot in
    let a = c.args in
    let q = closed a.limits a.counts a.words.now c.requires.0 a.marks.now l.words l.slot l.from l.to l.invariant c.loop-slot-test.false in
    record { words_after = q.0; value = q.1.0; upper_bound = q.1.1 }
