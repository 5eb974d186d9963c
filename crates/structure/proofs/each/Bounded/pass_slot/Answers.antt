-- `structure::each::Bounded::pass_slot` meets its contract.
-- Assumes nothing.
use Rattle.structure.proofs.Turns.{free-passed}
use Rattle.structure.proofs.each.Bounded.pass_slot.Goals as goal

pub returns-else-is_live : goal.returns-else-is_live
returns-else-is_live c =
    let v = c.args.self.now.nodes.view in
    free-passed v.document v.words.now c.args.s _ c.is_live.ensures c.if-is_live.false c.args.scratch.now
