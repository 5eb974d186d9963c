-- `productions::checks::check_namespace` meets its contract.
-- Assumes nothing.
use mathlib.Core.Path.{◌∙◌, ap}
use mathlib.Core.Bool.{Bool, cond}
use Rattle.chars.specs.declared.Fault.TheVariants.{InvalidName}
use Rattle.chars.specs.Checks.{passed, refused, xmlns_uri}
use Rattle.productions.proofs.Spelling.{unequal}
use Rattle.productions.proofs.Verdicts.{left, namespace-refused, namespace-read}
use Rattle.productions.proofs.checks.check_namespace.Goals as goal

pub returns-in_err-check_text : goal.returns-in_err-check_text
returns-in_err-check_text c = left _ _ c.from_residual.ensures.1 ∙ namespace-refused _ _ _ c.check_text.ensures c.in_err-check_text.was

pub returns : goal.returns
returns c =
    c.ensure.ensures
    ∙ ap (λ (t : Bool). cond t passed (refused InvalidName)) (unequal _ xmlns_uri _ c.as_slice.ensures _ c.ne.ensures)
    ∙ namespace-read _ _ c.check_text.ensures c.in_ok-check_text.was
