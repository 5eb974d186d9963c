-- `structure::pool::check_pool` meets its contract.
-- Assumes nothing.
use native.Mathlib.Omega.{arith}
use Rattle.structure.proofs.Claimed.{text-marks-inside}
use Rattle.structure.proofs.CountsAndFields.{texts-below}
use Rattle.structure.proofs.Turns.{lent-size, lent-counted}
use Rattle.structure.proofs.pool.check_pool.Goals as goal

pub overflow_add-end : goal.overflow_add-end
overflow_add-end c =
    let d = c.args.view.now.document in
    omega (arith, c.requires.scratch_fits, text-marks-inside d (texts-below d c.requires.counts), c.marks_at-at.ensures)

pub slice_bounds-check_texts-end : goal.slice_bounds-check_texts-end
slice_bounds-check_texts-end c =
    let d = c.args.view.now.document in
    omega (arith, c.requires.scratch_fits, text-marks-inside d (texts-below d c.requires.counts), c.marks_at-at.ensures)

pub check_texts-requires-clause-marks_len : goal.check_texts-requires-clause-marks_len
check_texts-requires-clause-marks_len c =
    let v = c.args.view.now in
    let fits = texts-below v.document c.requires.counts in
    let at = c.marks_at-at.ensures in
    (lent-size v.document c.args.scratch.now _ at fits c.requires.scratch_fits, lent-counted v.document c.args.scratch.now _ at fits c.requires.scratch_fits _ c.requires.counted)
