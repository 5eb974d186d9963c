-- `entries::nodes::name_of` meets its contract.
-- Assumes nothing.
use mathlib.Core.Path.{◌∙◌}
use Rattle.entries.proofs.Words.{name-word}
use Rattle.entries.proofs.nodes.name_of.Goals as goal

pub returns : goal.returns
returns c =
    let v = c.args.view.now in
    c.record_word.ensures ∙ name-word v.document v.words.now c.args.s c.requires
