-- `edits::replace::do_replace_text` meets its contract.
-- Assumes nothing.
use native.Mathlib.Omega.{arith}
use mathlib.Core.Path.{sym, ◌∙◌}
use Rattle.records.specs.Handles.{word_of}
use Rattle.edits.proofs.Moved.{node-slot, not_none}
use Rattle.edits.proofs.Replaced.{replaced-node}
use Rattle.edits.proofs.replace.do_replace_text.Goals as goal

pub load-requires : goal.load-requires
load-requires c =
    let a = c.args in
    rw c.view.ensures.0 (node-slot a.lent.now.document a.lent.now.words.now a.id (omega (arith, c.well_formed)) (replaced-node a.lent.now.document a.lent.now.words.now (word_of a.id) a.text.now c.requires))

pub returns-in_default : goal.returns-in_default
returns-in_default c =
    let a = c.args in
    absurd (not_none a.lent.now.document a.lent.now.words.now a.id (omega (arith, c.well_formed)) (replaced-node a.lent.now.document a.lent.now.words.now (word_of a.id) a.text.now c.requires) (sym (rw (c.view.ensures.0, c.view.ensures.1) at c.load.ensures) ∙ c.in_default.is))
