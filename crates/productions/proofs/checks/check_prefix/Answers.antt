-- `productions::checks::check_prefix` meets its contract.
-- Assumes nothing.
use mathlib.Core.Path.{◌∙◌, ap}
use mathlib.Core.Bool.{Bool, not, ◌&&◌, cond}
use native.Mathlib.Omega.{arith}
use Rattle.std.proofs.lemmas.Bool.Decides.{nat_tests}
use Rattle.chars.specs.declared.Fault.TheVariants.{InvalidName}
use Rattle.chars.specs.Checks.{passed, refused}
use Rattle.productions.proofs.Verdicts.{left, unread, read, no_text, check-no-prefix, check-prefix}
use Rattle.productions.proofs.checks.check_prefix.Goals as goal

pub returns-then-is_empty : goal.returns-then-is_empty
returns-then-is_empty c = check-no-prefix _ (grind (arith, nat_tests))

pub returns-in_err-is_name : goal.returns-in_err-is_name
returns-in_err-is_name c = left _ _ c.from_residual.ensures.1 ∙ no_text _ _ (unread _ _ _ c.scan.ensures _ c.in_err-is_name.was)

pub returns : goal.returns
returns c =
    c.ensure.ensures
    ∙ ap (λ (t : Bool). cond (c.in_ok-is_name.is_name && not t) passed (refused InvalidName)) c.is_reserved_prefix.ensures
    ∙ check-prefix _ (grind (arith, nat_tests)) _ (read _ _ _ c.scan.ensures _ c.in_ok-is_name.was)
