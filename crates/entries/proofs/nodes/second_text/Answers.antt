-- `entries::nodes::second_text` meets its contract.
-- Assumes nothing.
use native.Mathlib.Omega.{arith}
use Rattle.entries.proofs.Words.{second-narrow, second_word}
use Rattle.entries.proofs.nodes.second_text.Goals as goal

pub chars_of-requires : goal.chars_of-requires
chars_of-requires c =
    let v = c.args.view.now in
    omega (arith, c.record_word.ensures, second-narrow v.document v.words.now c.args.s c.requires)

pub returns : goal.returns
returns c =
    let v = c.args.view.now in
    rw (c.chars_of.ensures, c.record_word.ensures) (second_word v.document v.words.now c.args.s c.requires)
