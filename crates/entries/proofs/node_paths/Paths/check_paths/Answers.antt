-- `entries::node_paths::Paths::check_paths` meets its contract.
-- Assumes nothing.
use native.Mathlib.Omega.{arith}
use Rattle.entries.specs.View.{decoded_nodes}
use Rattle.entries.proofs.Paths.{gens-made, checked-next, checked-lost, checked-all}
use Rattle.entries.proofs.node_paths.Paths.check_paths.Goals as goal

pub returns-then-not-pass_slot : goal.returns-then-not-pass_slot
returns-then-not-pass_slot c =
    let a = c.args in
    let v = c.args.self.now.nodes.view in
    checked-lost (decoded_nodes v) a.known.now _ _ c.loop-i.invariant _ _ c.pass_slot.ensures c.if-not-pass_slot.true

pub loop-i-preserved : goal.loop-i-preserved
loop-i-preserved c =
    let a = c.args in
    let v = c.args.self.now.nodes.view in
    checked-next (decoded_nodes v) a.known.now _ _ c.loop-i.invariant _ _ c.pass_slot.ensures (omega (arith, c.made-i-end.ensures, gens-made v.document v.words.now)) c.pass_slot.auto.known c.if-not-pass_slot.false

pub returns : goal.returns
returns c =
    let a = c.args in
    let v = c.args.self.now.nodes.view in
    checked-all (decoded_nodes v) a.known.now _ _ c.loop-i.invariant (omega (arith, c.made-i-end.ensures, gens-made v.document v.words.now)) c.args.self.now.parents
