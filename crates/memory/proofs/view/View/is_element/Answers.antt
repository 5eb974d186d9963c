-- `memory::view::View::is_element` meets its contract.
-- Assumes nothing.
use native.Mathlib.Omega.{arith}
use Rattle.memory.proofs.Words.{live-below, element-word}
use Rattle.memory.proofs.view.View.is_element.Goals as goal

pub record_word-requires : goal.record_word-requires
record_word-requires c =
    (live-below c.args.self.now.document c.args.self.now.words.now c.args.slot.0 c.requires, omega arith)

pub returns : goal.returns
returns c =
    element-word c.args.self.now.document c.args.self.now.words.now c.args.slot.0 c.requires _ c.record_word.ensures
