-- `productions::checks::check_namespace_binding` meets its contract.
-- Assumes nothing.
use mathlib.Core.Path.{◌∙◌, ap}
use mathlib.Core.Bool.{Bool, cond}
use Rattle.chars.specs.declared.Fault.TheVariants.{InvalidName}
use Rattle.chars.specs.Checks.{passed, refused, xml_uri}
use Rattle.productions.proofs.Spelling.{unequal}
use Rattle.productions.proofs.Verdicts.{left, binding-refused, binding-read}
use Rattle.productions.proofs.checks.check_namespace_binding.Goals as goal

pub returns-in_err-check_namespace : goal.returns-in_err-check_namespace
returns-in_err-check_namespace c = left _ _ c.from_residual.ensures.1 ∙ binding-refused _ _ _ c.check_namespace.ensures c.in_err-check_namespace.was

pub returns : goal.returns
returns c =
    c.ensure.ensures
    ∙ ap (λ (t : Bool). cond t passed (refused InvalidName)) (unequal _ xml_uri _ c.as_slice.ensures _ c.ne.ensures)
    ∙ binding-read _ _ c.check_namespace.ensures c.in_ok-check_namespace.was
