-- `reading::nodes::write_nodes` meets its contract.
-- Assumes nothing.
use native.Mathlib.Omega.{arith}
use lib.ListN.{length}
use Rattle.memory.specs.View.{decoded}
use Rattle.layout.proofs.Sizes.{sizes}
use Rattle.reading.proofs.Live.{below-short, below-start, below-turn, below_all}
use Rattle.reading.proofs.nodes.write_nodes.Goals as goal

pub loop-i-init : goal.loop-i-init
loop-i-init c =
    let a = c.args in
    below-start (decoded a.view.now) a.out.now

pub overflow_cast-i : goal.overflow_cast-i
overflow_cast-i c =
    let z = (sizes c.args.view.now.document (length c.args.view.now.words.now) c.args.view.now.fits).nodes in
    omega arith

pub put_live-count-requires : goal.put_live-count-requires
put_live-count-requires c =
    (omega arith, omega (arith, below-short (decoded c.args.view.now) c.loop-i.i))

pub loop-i-preserved : goal.loop-i-preserved
loop-i-preserved c =
    let a = c.args in
    let inv = c.loop-i.invariant in
    below-turn (decoded a.view.now) a.out.now _ _ _ _ _ (omega arith) inv.0 inv.1 c.put_live-count.ensures.value c.put_live-count.ensures.out_after

pub returns : goal.returns
returns c =
    let a = c.args in
    let inv = c.loop-i.invariant in
    let q = below_all a.view.now.document a.view.now.words.now c.loop-i.i c.made-i-end.result _ a.out.now _ c.made-i-end.ensures (omega arith) (omega arith) inv.0 inv.1 in
    record { value = q.0; out_after = q.1 }
