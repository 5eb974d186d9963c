-- `reading::text::kind` meets its contract.
-- Assumes nothing.
use mathlib.Core.Path.{sym, ◌∙◌}
use native.Mathlib.Omega.{arith}
use Rattle.std.specs.Prelude.{Ok, Some, None}
use Rattle.reading.specs.Answers.{of_kind}
use Rattle.reading.proofs.Tested.{decoded-reads}
use Rattle.reading.proofs.Texts.{kind-shown, kind-stale}
use Rattle.reading.proofs.text.kind.Goals as goal

pub returns : goal.returns
returns c =
    let a = c.args in
    let v = c.in_ok-view.view in
    decoded-reads v a.d a.mem.now (λ d mem. of_kind d mem (Ok (Some c.in-Some.node.«data»))) _ c.in_ok-view.ensures
    (kind-shown v.document v.words.now a.id (omega arith) (omega arith) _ (sym c.resolve.ensures ∙ c.in-Some.is))

pub returns-in_default : goal.returns-in_default
returns-in_default c =
    let a = c.args in
    let v = c.in_ok-view.view in
    decoded-reads v a.d a.mem.now (λ d mem. of_kind d mem (Ok None)) _ c.in_ok-view.ensures
    (kind-stale v.document v.words.now a.id (omega arith) (omega arith) (sym c.resolve.ensures ∙ c.in_default.is))
