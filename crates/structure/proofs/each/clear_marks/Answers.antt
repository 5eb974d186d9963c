-- `structure::each::clear_marks` meets its contract.
-- Assumes nothing.
use Rattle.structure.proofs.Turns.{marks-cleared}
use Rattle.structure.proofs.each.clear_marks.Goals as goal

pub returns : goal.returns
returns c =
    marks-cleared c.args.d c.args.scratch.now _ _ _ _ c.requires.2 c.requires.1 c.clear_texts.ensures c.clear_texts.auto.scratch c.clear_arena.ensures c.clear_arena.auto.scratch c.clear_arena-2.ensures c.clear_arena-2.auto.scratch c.clear_arena-3.ensures
