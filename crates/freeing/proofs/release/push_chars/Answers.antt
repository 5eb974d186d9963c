-- `freeing::release::push_chars` meets its contract.
-- Assumes nothing.
use mathlib.Core.Path.{refl}
use Rattle.freeing.proofs.Pushed.{nothing-pushed, field-pushed}
use Rattle.freeing.proofs.release.push_chars.Goals as goal

pub returns-in_default : goal.returns-in_default
returns-in_default c =
    let a = c.args in
    record { step = nothing-pushed a.lent.now.document a.lent.now.words.now a.field c.in_default.is; reference = refl }

pub returns-in-Some : goal.returns-in-Some
returns-in-Some c =
    let a = c.args in
    let got = c.push_slot in
    record { step = field-pushed a.lent.now.document a.lent.now.words.now a.field _ c.in-Some.is got.new.lent.document _ got.ensures.step; reference = got.ensures.reference }
