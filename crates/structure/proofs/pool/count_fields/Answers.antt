-- `structure::pool::count_fields` meets its contract.
-- Assumes nothing.
use Rattle.structure.proofs.Turns.{fields_lent}
use Rattle.structure.proofs.pool.count_fields.Goals as goal

pub returns : goal.returns
returns c =
    let v = c.args.view.now in
    fields_lent v.document c.args.scratch.now _ c.marks_at-at.ensures c.requires.1 c.requires.0 v.words.now c.args.s _ _ c.count_node.auto.marks c.count_node.ensures
