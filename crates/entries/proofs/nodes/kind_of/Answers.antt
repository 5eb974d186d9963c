-- `entries::nodes::kind_of` meets its contract.
-- Assumes nothing.
use mathlib.Core.Path.{◌∙◌}
use Rattle.entries.proofs.Words.{kind-word}
use Rattle.entries.proofs.nodes.kind_of.Goals as goal

pub returns : goal.returns
returns c =
    let v = c.args.view.now in
    c.record_word.ensures ∙ kind-word v.document v.words.now c.args.s c.requires
