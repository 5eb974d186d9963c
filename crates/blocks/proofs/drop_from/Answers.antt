-- `blocks::drop_from` meets its contract: the id is absent, or taken out.
-- Assumes nothing.
use mathlib.Core.Path.{refl, sym, ◌∙◌}
use native.Mathlib.Omega.{arith}
use Rattle.blocks.proofs.Halves.{held_fits}
use Rattle.blocks.proofs.Removes.{index-there, index-absent, removes-absent, removes-there, stored-record}
use Rattle.blocks.proofs.drop_from.Goals as goal

pub returns-in_default : goal.returns-in_default
returns-in_default c =
    let q = removes-absent _ _ _ _ c.requires _ _ refl (index-absent _ _ _ _ _ c.requires _ (sym c.position.ensures ∙ c.in_default.is)) in
    record { by_index = q.0; by_index_2 = q.1 }

pub remove_in_place-requires : goal.remove_in_place-requires
remove_in_place-requires c =
    let pre = c.requires in
    ((index-there _ _ _ _ _ pre _ _ (sym c.position.ensures ∙ c.in-Some.is)).1, omega (arith, held_fits _ _ _ _ _ pre, pre.twice))

pub bounds-arena-limit : goal.bounds-arena-limit
bounds-arena-limit c =
    let pre = c.requires in
    omega (arith, held_fits _ _ _ _ _ pre, pre.twice, index-there _ _ _ _ _ pre _ _ (sym c.position.ensures ∙ c.in-Some.is))

pub overflow_sub-result : goal.overflow_sub-result
overflow_sub-result c = omega (arith, index-there _ _ _ _ _ c.requires _ _ (sym c.position.ensures ∙ c.in-Some.is))

pub returns : goal.returns
returns c =
    let i = index-there _ _ _ _ _ c.requires _ _ (sym c.position.ensures ∙ c.in-Some.is) in
    let q = removes-there _ _ _ _ c.requires _ _ _ _ i.0 i.1 c.shrunk-cap.ensures (stored-record _ _ _ _ c.remove_in_place.ensures) in
    record { by_index = q.0; by_index_2 = q.1 }
