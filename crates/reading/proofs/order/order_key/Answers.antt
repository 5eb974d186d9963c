-- `reading::order::order_key` meets its contract.
-- Assumes nothing.
use native.Mathlib.Omega.{arith}
use Rattle.reading.specs.Answers.{of_key}
use Rattle.reading.proofs.Tested.{decoded-reads}
use Rattle.reading.proofs.Keyed.{slot-inside, key-shown}
use Rattle.reading.proofs.order.order_key.Goals as goal

pub live_key-requires : goal.live_key-requires
live_key-requires c =
    let a = c.args in
    let v = c.in_ok-view.view in
    slot-inside v.document v.words.now a.id (omega arith) (omega arith) _ c.resolves.ensures c.if-resolves.true

pub returns-then-resolves : goal.returns-then-resolves
returns-then-resolves c =
    let a = c.args in
    let v = c.in_ok-view.view in
    decoded-reads v a.d a.mem.now (λ d mem. of_key c.live_key.result) _ c.in_ok-view.ensures
    (key-shown v.document v.words.now a.id (omega arith) (omega arith) _ c.resolves.ensures c.if-resolves.true _ c.live_key.ensures)
