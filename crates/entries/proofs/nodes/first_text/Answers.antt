-- `entries::nodes::first_text` meets its contract.
-- Assumes nothing.
use native.Mathlib.Omega.{arith}
use Rattle.entries.proofs.Words.{first-narrow, first_word}
use Rattle.entries.proofs.nodes.first_text.Goals as goal

pub chars_of-requires : goal.chars_of-requires
chars_of-requires c =
    let v = c.args.view.now in
    omega (arith, c.record_word.ensures, first-narrow v.document v.words.now c.args.s c.requires)

pub returns : goal.returns
returns c =
    let v = c.args.view.now in
    rw (c.chars_of.ensures, c.record_word.ensures) (first_word v.document v.words.now c.args.s c.requires)
