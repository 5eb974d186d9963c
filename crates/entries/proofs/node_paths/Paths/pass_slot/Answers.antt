-- `entries::node_paths::Paths::pass_slot` meets its contract.
-- Assumes nothing.
use native.Mathlib.Omega.{arith}
use Rattle.entries.specs.View.{decoded_nodes}
use Rattle.entries.proofs.Paths.{pass-known}
use Rattle.entries.proofs.node_paths.Paths.pass_slot.Goals as goal

pub returns-then-parent_known : goal.returns-then-parent_known
returns-then-parent_known c =
    let a = c.args in
    let v = c.args.self.now.nodes.view in
    pass-known (decoded_nodes v) a.slot (c.parent_known.ensures c.if-parent_known.true) a.known.now c.requires.1 (omega arith) 1
