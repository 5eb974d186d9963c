-- `entries::node_paths::Paths::parent_known` meets its contract.
-- Assumes nothing.
use native.Mathlib.Omega.{arith}
use Rattle.model.specs.Rules.{Ends}
use Rattle.entries.specs.View.{decoded_nodes}
use Rattle.entries.proofs.Paths.{live_made, parent_live, end_below, known-ends}
use Rattle.entries.proofs.node_paths.Paths.parent_known.Goals as goal

pub bounds-known-parent : goal.bounds-known-parent
bounds-known-parent c =
    let v = c.args.self.now.nodes.view in
    omega (arith, c.requires.0, live_made v.document v.words.now _ (parent_live (decoded_nodes v) c.args.slot c.in-Some.parent c.in-Some.ensures c.args.self.now.parents c.requires.2))

pub returns-in-None : goal.returns-in-None
returns-in-None c = λ _. Ends.top c.in-None.ensures

pub returns-in-Some : goal.returns-in-Some
returns-in-Some c =
    let D = decoded_nodes c.args.self.now.nodes.view in
    λ e. end_below D _ _ c.in-Some.ensures (known-ends D _ c.requires.1 _ e)
