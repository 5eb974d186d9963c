-- `scanning::scan::scan` meets its contract. The invariant: the rule finds in the whole what it finds in what is left.
-- Assumes nothing.
use mathlib.Core.Path.{◌≡◌, sym, ap, ◌∙◌}
use native.Mathlib.Omega.{arith}
use Rattle.std.specs.Prelude.{Some, None, Ok}
use Rattle.std.proofs.lemmas.Result.{err_from_is_err_and}
use Rattle.chars.proofs.Numbers.{numbers-length}
use Rattle.chars.proofs.Decoding.{taken}
use Rattle.scanning.proofs.Passes.{turned_left, bad-left, nothing_left}
use Rattle.scanning.proofs.scan.scan.Goals as goal

pub returns-in_err-point : goal.returns-in_err-point
returns-in_err-point g c =
    let long = numbers-length g.T.Unit.number g.T.Unit.numbers g.met.T.Unit.each c.args.s.now in
    let bad : c.step_at.result ≡ None = grind arith in
    let p = err_from_is_err_and c.from_residual.result c.from_residual.ensures.1 in
    rw p.1 (bad-left _ _ _ _ c.loop-i.invariant (omega arith) (sym c.step_at.ensures ∙ bad))

pub overflow_add-i : goal.overflow_add-i
overflow_add-i g c =
    let long = numbers-length g.T.Unit.number g.T.Unit.numbers g.met.T.Unit.each c.args.s.now in
    let found : c.step_at.result ≡ Some c.in_ok-point.point = grind arith in
    let within = taken _ _ _ (omega arith) (sym c.step_at.ensures ∙ found) in
    omega arith

pub overflow_add-i-in-loop-i : goal.overflow_add-i-in-loop-i
overflow_add-i-in-loop-i g c =
    let long = numbers-length g.T.Unit.number g.T.Unit.numbers g.met.T.Unit.each c.args.s.now in
    let found : c.step_at.result ≡ Some c.in_ok-point.point = grind arith in
    let within = taken _ _ _ (omega arith) (sym c.step_at.ensures ∙ found) in
    omega arith

pub loop-i-preserved : goal.loop-i-preserved
loop-i-preserved g c =
    let long = numbers-length g.T.Unit.number g.T.Unit.numbers g.met.T.Unit.each c.args.s.now in
    let found : c.step_at.result ≡ Some c.in_ok-point.point = grind arith in
    turned_left _ _ _ _ c.loop-i.invariant (omega arith) _ (sym c.step_at.ensures ∙ found) _ c.turned-state.ensures _ (omega arith)

pub returns : goal.returns
returns g c =
    let long = numbers-length g.T.Unit.number g.T.Unit.numbers g.met.T.Unit.each c.args.s.now in
    ap Ok c.may_end.ensures ∙ nothing_left _ _ _ _ c.loop-i.invariant (omega arith)
