-- `blocks::marks::all_zero` meets its contract.
-- Assumes nothing.
use Rattle.std.proofs.Common.{rules, tests, ◌∙◌, eqb}
use Rattle.std.proofs.lemmas.Iterator.{YieldsList-from_slice}
use Rattle.std.proofs.lemmas.Iterator.Search.{all_from_yields_List}
use Rattle.words.proofs.Lists.{all-std}
use Rattle.blocks.proofs.marks.all_zero.Goals as goal

pub returns : goal.returns
returns c =
    all_from_yields_List (eqb 0) c.all.new.self _ _ c.all.ensures.ran (YieldsList-from_slice _ c.iter.ensures.rest) (λ x b q k. search (rules, tests))
    ∙ all-std (eqb 0) c.args.marks.now
