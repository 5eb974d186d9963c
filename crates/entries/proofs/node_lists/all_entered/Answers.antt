-- `entries::node_lists::all_entered` meets its contract.
-- Assumes nothing.
use native.Mathlib.Omega.{arith}
use Rattle.memory.specs.Decode.{slots_made}
use Rattle.entries.specs.View.{decoded_nodes}
use Rattle.entries.specs.Entering.{marked_once}
use Rattle.entries.proofs.Marks.{tested-next, tested-not}
use Rattle.entries.proofs.Counting.{marked-is}
use Rattle.entries.proofs.node_lists.all_entered.Goals as goal

pub returns-then-not-entered_once : goal.returns-then-not-entered_once
returns-then-not-entered_once c =
    let a = c.args in
    let v = c.args.nodes.now.view in
    tested-not (slots_made v.document) (marked_once (decoded_nodes v) a.marks.now) _ _ (omega (arith, c.made-i-end.ensures)) (marked-is (decoded_nodes v) a.marks.now _ _ c.entered_once.ensures) c.if-not-entered_once.true

pub loop-i-preserved : goal.loop-i-preserved
loop-i-preserved c =
    let a = c.args in
    let v = c.args.nodes.now.view in
    tested-next (slots_made v.document) (marked_once (decoded_nodes v) a.marks.now) _ _ c.loop-i.invariant (marked-is (decoded_nodes v) a.marks.now _ _ c.entered_once.ensures) c.if-not-entered_once.false
