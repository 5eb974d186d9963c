-- `entries::node_paths::Paths::mark_path` meets its contract.
-- Assumes nothing.
use mathlib.Core.Path.{◌∙◌}
use native.Mathlib.Omega.{arith}
use lib.ListN.{length-set}
use Rattle.entries.specs.View.{decoded_nodes}
use Rattle.entries.proofs.Paths.{live_made, parent_live, end_above, known_next, fewer}
use Rattle.entries.proofs.node_paths.Paths.mark_path.Goals as goal

pub loop-known-smaller : goal.loop-known-smaller
loop-known-smaller c =
    let v = c.args.self.now.nodes.view in
    fewer c.loop-known.known c.loop-known.at (omega (arith, c.requires.0, c.loop-known.invariant.0, live_made v.document v.words.now c.loop-known.at c.loop-known.invariant.3)) c.loop-known-test.true

pub loop-known-preserved : goal.loop-known-preserved
loop-known-preserved c =
    let v = c.args.self.now.nodes.view in
    let D = decoded_nodes v in
    let i = c.loop-known.invariant in
    let e = c.in-Some.ensures in
    (length-set c.loop-known.known c.loop-known.at 1 ∙ i.0, known_next D c.loop-known.known c.loop-known.at 1 i.1 i.2 (omega (arith, c.requires.0, i.0, live_made v.document v.words.now c.loop-known.at c.loop-known.invariant.3)), end_above D _ c.in-Some.parent e i.2, parent_live D _ c.in-Some.parent e c.args.self.now.parents i.3)
