-- `memory::view::View::live_parent` meets its contract.
-- Assumes nothing.
use native.Mathlib.Omega.{arith}
use Rattle.memory.proofs.Words.{live-below, parent-narrow, parent-word}
use Rattle.memory.proofs.view.View.live_parent.Goals as goal

pub record_word-word-requires : goal.record_word-word-requires
record_word-word-requires c =
    (live-below c.args.self.now.document c.args.self.now.words.now c.args.slot.0 c.requires, omega arith)

pub record_word-generation-requires : goal.record_word-generation-requires
record_word-generation-requires c =
    (live-below c.args.self.now.document c.args.self.now.words.now c.args.slot.0 c.requires, omega arith)

pub parent_of-requires : goal.parent_of-requires
parent_of-requires c =
    omega (arith, c.record_word-word.ensures, c.record_word-generation.ensures, parent-narrow c.args.self.now.document c.args.self.now.words.now c.args.slot.0 c.requires)

pub returns : goal.returns
returns c =
    rw (c.parent_of.ensures, c.record_word-word.ensures, c.record_word-generation.ensures) (parent-word c.args.self.now.document c.args.self.now.words.now c.args.slot.0 c.requires)
