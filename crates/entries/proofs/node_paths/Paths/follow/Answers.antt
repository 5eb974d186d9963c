-- `entries::node_paths::Paths::follow` meets its contract.
-- Assumes nothing.
use native.Mathlib.Omega.{arith}
use Rattle.model.specs.Rules.{Ends}
use Rattle.entries.specs.View.{decoded_nodes}
use Rattle.entries.proofs.Paths.{gens-made, follow-step, follow-ended, follow-end}
use Rattle.entries.proofs.node_paths.Paths.follow.Goals as goal

pub returns-in-None : goal.returns-in-None
returns-in-None c =
    let v = c.args.self.now.nodes.view in
    follow-ended (decoded_nodes v) _ _ _ c.loop.invariant (Ends.top c.in-None.ensures)

pub loop-preserved : goal.loop-preserved
loop-preserved c =
    let v = c.args.self.now.nodes.view in
    follow-step (decoded_nodes v) _ _ _ c.loop.invariant c.args.self.now.parents (omega (arith, c.made-end.ensures, gens-made v.document v.words.now)) _ c.in-Some.ensures

pub returns : goal.returns
returns c =
    let v = c.args.self.now.nodes.view in
    follow-end (decoded_nodes v) _ _ _ c.loop.invariant (omega (arith, c.made-end.ensures, gens-made v.document v.words.now))
