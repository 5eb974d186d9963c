-- `steps::step::seek` meets its contract.
-- Assumes nothing.
use mathlib.Core.Path.{sym, ap, ◌∙◌}
use Rattle.memory.specs.Decode.{handle_of}
use Rattle.memory.specs.View.{decoded}
use Rattle.steps.proofs.Stepping.{seek-zone, seek-top, seek-up}
use Rattle.steps.proofs.step.seek.Goals as goal

pub returns-then-word-at : goal.returns-then-word-at
returns-then-word-at c =
    let a = c.args in
    seek-zone (decoded a.view.now) a.at a.word a.room c.if-word-at.true

pub returns-in-None : goal.returns-in-None
returns-in-None c =
    let a = c.args in
    seek-top (decoded a.view.now) a.at a.word a.room c.if-word-at.false _ c.from.ensures (ap handle_of (sym c.in-None.is) ∙ c.live_shown_parent.ensures)

pub returns-in-Some : goal.returns-in-Some
returns-in-Some c =
    let a = c.args in
    seek-up (decoded a.view.now) a.at a.word a.room c.if-word-at.false _ c.from.ensures _ (ap handle_of (sym c.in-Some.is) ∙ c.live_shown_parent.ensures) _ c.seek_under.ensures
