-- `showing::shown::shows_element` meets its contract.
-- Assumes nothing.
use native.Mathlib.Omega.{arith}
use Rattle.showing.proofs.Found.{live-shown, element-shown, element-stale}
use Rattle.showing.proofs.shown.shows_element.Goals as goal

pub is_element-requires : goal.is_element-requires
is_element-requires c =
    let a = c.args in
    let v = a.view.now in
    live-shown v.document v.words.now a.id (omega arith) (omega arith) _ c.resolves.ensures c.if-resolves.true

pub returns-then-resolves : goal.returns-then-resolves
returns-then-resolves c =
    let a = c.args in
    let v = a.view.now in
    element-shown v.document v.words.now a.id (omega arith) (omega arith) _ c.resolves.ensures c.if-resolves.true _ c.is_element.ensures

-- The `false` of the branch, and not the test by its name: a body that answers the like in another form is proved too.
pub returns-else-resolves : goal.returns-else-resolves
returns-else-resolves c =
    let a = c.args in
    let v = a.view.now in
    let stale = element-stale v.document v.words.now a.id (omega arith) (omega arith) _ c.resolves.ensures c.if-resolves.false in
    let no = c.if-resolves.false in
    cc
