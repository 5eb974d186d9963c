-- `structure::each::Bounded::check_each` meets its contract.
-- Assumes nothing.
use lib.ListN.{length}
use Rattle.layout.proofs.Sizes.{memory-limits}
use Rattle.structure.proofs.each.Bounded.check_each.Goals as goal

pub clear_marks-requires : goal.clear_marks-requires
clear_marks-requires c =
    let v = c.args.self.now.nodes.view in
    (memory-limits v.document (length v.words.now) v.fits, c.requires, c.args.self.now.texts)
