-- `reading::name::name` meets its contract.
-- Assumes nothing.
use Rattle.std.specs.Prelude.{Ok}
use Rattle.reading.specs.Answers.{of_name}
use Rattle.reading.proofs.Tested.{decoded-reads}
use Rattle.reading.proofs.Texts.{name-told}
use Rattle.reading.proofs.name.name.Goals as goal

pub returns : goal.returns
returns c =
    let a = c.args in
    let v = c.in_ok-view.view in
    decoded-reads v a.d a.mem.now (λ d mem. of_name d mem (Ok c.then_some.result)) _ c.in_ok-view.ensures
    (rw c.then_some.ensures (name-told v.document v.words.now a.number _ c.has_name.ensures))
