-- `reading::nodes::put_live` meets its contract.
-- Assumes nothing.
use mathlib.Core.Path.{sym, ◌∙◌}
use native.Mathlib.Omega.{arith}
use Rattle.reading.proofs.Live.{generation-narrow, slot-none, slot-live}
use Rattle.reading.proofs.nodes.put_live.Goals as goal

pub overflow_mul-out : goal.overflow_mul-out
overflow_mul-out c =
    let a = c.args in
    let v = a.view.now in
    let n = generation-narrow v.document v.words.now a.slot.0 c.requires.0 _ c.generation-generation.ensures (sym c.is_live.ensures ∙ c.if-is_live.true) in
    omega (arith, n)

pub overflow_add-out : goal.overflow_add-out
overflow_add-out c =
    let a = c.args in
    let v = a.view.now in
    let n = generation-narrow v.document v.words.now a.slot.0 c.requires.0 _ c.generation-generation.ensures (sym c.is_live.ensures ∙ c.if-is_live.true) in
    omega (arith, n)

pub returns-then-is_live : goal.returns-then-is_live
returns-then-is_live c =
    let a = c.args in
    let v = a.view.now in
    let q = slot-live v.document v.words.now a.slot.0 c.requires.0 a.out.now a.count _ c.is_live.ensures c.if-is_live.true _ c.generation-generation.ensures c.requires.1 in
    record { value = q.0; out_after = q.1 }

pub returns : goal.returns
returns c =
    let a = c.args in
    let v = a.view.now in
    let q = slot-none v.document v.words.now a.slot.0 c.requires.0 a.out.now a.count _ c.is_live.ensures c.if-is_live.false in
    record { value = q.0; out_after = q.1 }
