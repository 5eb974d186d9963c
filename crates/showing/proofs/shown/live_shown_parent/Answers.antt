-- `showing::shown::live_shown_parent` meets its contract.
-- Assumes nothing.
use mathlib.Core.Path.{refl}
use native.Mathlib.Omega.{arith}
use Rattle.showing.proofs.Found.{live-shown, parent-shown}
use Rattle.showing.proofs.shown.live_shown_parent.Goals as goal

pub live_parent-requires : goal.live_parent-requires
live_parent-requires c =
    let a = c.args in
    let v = a.view.now in
    live-shown v.document v.words.now a.id (omega arith) (omega arith) _ refl c.requires

pub returns : goal.returns
returns c =
    let a = c.args in
    let v = a.view.now in
    parent-shown v.document v.words.now a.id (omega arith) (omega arith) _ refl c.requires _ c.live_parent.ensures
