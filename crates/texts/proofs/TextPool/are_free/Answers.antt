-- `texts::TextPool::are_free` meets its contract.
-- Assumes nothing.
use Rattle.std.proofs.Common.{rules, tests, ◌∙◌}
use Rattle.std.proofs.lemmas.Iterator.{YieldsList-from_slice}
use Rattle.std.proofs.lemmas.Iterator.Search.{all_from_yields_List}
use Rattle.words.specs.Parts.{part}
use Rattle.words.proofs.Parts.{lent}
use Rattle.words.proofs.Lists.{all-std}
use Rattle.texts.specs.Words.{free_ok}
use Rattle.texts.proofs.TextPool.are_free.Goals as goal

pub returns : goal.returns
returns c =
    let p = c.args.self in
    all_from_yields_List (free_ok p.counts.slots p.words.now) c.all.new.self _ _ c.all.ensures.ran
    (YieldsList-from_slice _ (c.iter.ensures.rest ∙ lent p.words.now p.limits.slots p.counts.free)) (λ x b q k. search (rules, tests))
    ∙ all-std (free_ok p.counts.slots p.words.now) (part p.limits.slots p.counts.free p.words.now)
