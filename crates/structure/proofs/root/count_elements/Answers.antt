-- `structure::root::count_elements` meets its contract.
-- Assumes nothing.
use native.Mathlib.Omega.{arith}
use Rattle.entries.specs.View.{decoded_nodes}
use Rattle.structure.specs.Tests.{element_test}
use Rattle.structure.proofs.RootElement.{counted-yes, counted-no, counted-fits}
use Rattle.structure.proofs.root.count_elements.Goals as goal
use Rattle.structure.proofs.root.count_elements.Goals.{then-shows_element, else-shows_element}

pub overflow_add-count : goal.overflow_add-count
overflow_add-count c =
    let v = c.args.view.now in
    omega (arith, counted-fits (element_test (decoded_nodes v)) c.args.entries.now c.loop-word.word-index c.loop-word.count (omega arith) c.loop-word.invariant)

pub loop-word-preserved : goal.loop-word-preserved
loop-word-preserved c =
    let v = c.args.view.now in
    let i = c.loop-word in
    let p = element_test (decoded_nodes v) in
    elim c.if-shows_element.branch [
      | then-shows_element w ↦ counted-yes p c.args.entries.now i.word-index i.count (omega arith) i.invariant _ c.shows_element.ensures _ w.if-shows_element.true w.count-is
      | else-shows_element w ↦ counted-no p c.args.entries.now i.word-index i.count (omega arith) i.invariant _ c.shows_element.ensures _ w.if-shows_element.false w.count-is
    ]
