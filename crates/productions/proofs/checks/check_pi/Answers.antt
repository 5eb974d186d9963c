-- `productions::checks::check_pi` meets its contract.
-- Assumes nothing.
use mathlib.Core.Path.{◌∙◌, sym, ap}
use mathlib.Core.Bool.{Bool, not, ◌&&◌}
use Rattle.chars.specs.Checks.{refused}
use Rattle.productions.proofs.Verdicts.{left, unread, read, test-passed, test-refused, no-data, no_target, bad-target, good-target}
use Rattle.productions.proofs.checks.check_pi.Goals as goal

pub returns-in_err-is_body : goal.returns-in_err-is_body
returns-in_err-is_body c = left _ _ c.from_residual.ensures.1 ∙ no-data _ _ (unread _ _ _ c.scan.ensures _ c.in_err-is_body.was)

pub returns-in_err-is_name : goal.returns-in_err-is_name
returns-in_err-is_name c = left _ _ c.from_residual-in_err-is_name.ensures.1 ∙ no_target _ _ (unread _ _ _ c.scan-2.ensures _ c.in_err-is_name.was)

pub returns-in_err-ensure : goal.returns-in_err-ensure
returns-in_err-ensure c =
    let q = test-refused _ _ _ _ c.ensure.ensures c.in_err-ensure.was in
    let name = ap (λ (t : Bool). c.in_ok-is_name.is_name && not t) (sym c.is_xml.ensures) ∙ q.0 in
    left _ _ c.from_residual-in_err-ensure.ensures.1
    ∙ ap refused q.1
    ∙ bad-target _ _ _ _ (read _ _ _ c.scan-2.ensures _ c.in_ok-is_name.was) (read _ _ _ c.scan.ensures _ c.in_ok-is_body.was) name

pub returns : goal.returns
returns c =
    let q = test-passed _ _ _ c.ensure.ensures c.in_ok-ensure.was in
    let name = ap (λ (t : Bool). c.in_ok-is_name.is_name && not t) (sym c.is_xml.ensures) ∙ q in
    c.ensure-2.ensures ∙ good-target _ _ _ _ (read _ _ _ c.scan-2.ensures _ c.in_ok-is_name.was) (read _ _ _ c.scan.ensures _ c.in_ok-is_body.was) name
