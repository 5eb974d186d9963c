-- `freeing::release::push_data` meets its contract.
-- Assumes nothing.
use mathlib.Core.Path.{◌∙◌}
use Rattle.freeing.proofs.Pushed.{second-releasable, data-pushed}
use Rattle.freeing.proofs.release.push_data.Goals as goal

pub push_chars-requires-2 : goal.push_chars-requires-2
push_chars-requires-2 c =
    let a = c.args in
    let first = c.push_chars in
    second-releasable a.lent.now.document a.lent.now.words.now a.«data» c.requires _ _ c.first_text-first.ensures c.second_text-second.ensures first.new.lent.document _ first.ensures.step

pub returns : goal.returns
returns c =
    let a = c.args in
    let first = c.push_chars in
    let second = c.push_chars-2 in
    record {
      step = data-pushed a.lent.now.document a.lent.now.words.now a.«data» c.requires _ _ c.first_text-first.ensures c.second_text-second.ensures first.new.lent.document _ first.ensures.step second.new.lent.document _ second.ensures.step;
      reference = second.ensures.reference ∙ first.ensures.reference;
    }
