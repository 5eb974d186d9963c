-- `reading::nodes::nodes` meets its contract.
-- Assumes nothing.
use mathlib.Core.Path.{sym}
use Rattle.reading.proofs.Live.{nodes-written}
use Rattle.reading.proofs.nodes.nodes.Goals as goal

pub returns : goal.returns
returns c =
    let v = c.in_ok-view.view in
    let e = c.in_ok-view.ensures in
    rw (sym e.1, sym e.2) (nodes-written v.document v.words.now c.args.out.now _ (rw (e.1, e.2) e.0) _ (c.write_nodes.ensures.value, c.write_nodes.ensures.out_after))
