-- `blocks::arena::ArenaWords::room_after_drop` meets its contract: an id that is absent, one of several, or the only one.
-- Assumes nothing.
use mathlib.Core.Path.{refl, sym, ◌∙◌}
use borrow.Author.Tests.{lt-ltb}
use Rattle.blocks.proofs.Removes.{index-there, index-absent, room-after-absent, room-after-only, room-after-some}
use Rattle.blocks.proofs.arena.ArenaWords.room_after_drop.Goals as goal

pub returns-in-None : goal.returns-in-None
returns-in-None c = room-after-absent _ _ _ _ _ c.requires _ _ refl _ (index-absent _ _ _ _ _ c.requires _ (sym c.position.ensures ∙ c.in-None.is)) c.room_for.ensures

pub returns-then-block-gt1 : goal.returns-then-block-gt1
returns-then-block-gt1 c =
    let i = index-there _ _ _ _ _ c.requires _ _ (sym c.position.ensures ∙ c.in-Some.is) in
    lt-ltb _ _ c.if-block-gt1.true ∙ room-after-some _ _ _ _ _ c.requires _ _ i.0 i.1 c.if-block-gt1.true

pub returns-else-block-gt1 : goal.returns-else-block-gt1
returns-else-block-gt1 c =
    let i = index-there _ _ _ _ _ c.requires _ _ (sym c.position.ensures ∙ c.in-Some.is) in
    room-after-only _ _ _ _ _ c.requires _ _ i.0 i.1 c.if-block-gt1.false
