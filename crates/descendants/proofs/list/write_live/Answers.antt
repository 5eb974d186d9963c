-- `descendants::list::write_live` meets its contract. The invariant: what is written, and what the steps from here on list, are the whole walk.
-- Assumes nothing.
use mathlib.Core.Path.{refl}
use native.Mathlib.Omega.{arith}
use borrow.Author.Rules.{rules}
use Rattle.memory.specs.View.{decoded}
use Rattle.descendants.specs.Walking.{walked}
use Rattle.descendants.proofs.Listing.{listing_start, listing-ends, listing-turn}
use Rattle.descendants.proofs.list.write_live.Goals as goal

pub loop-count-init : goal.loop-count-init
loop-count-init c =
    let a = c.args in
    listing_start (decoded a.view.now) (walked (decoded a.view.now) a.zone) a.out.now a.zone c.requires.1 refl _ c.start-at.ensures

pub returns-in_default : goal.returns-in_default
returns-in_default c =
    let a = c.args in
    let w = c.loop-count in
    let q = listing-ends (decoded a.view.now) (walked (decoded a.view.now) a.zone) a.out.now w.invariant (omega arith) _ c.successor.ensures (search rules) in
    record { value = q.0; out_after = q.1 }

pub loop-count-preserved : goal.loop-count-preserved
loop-count-preserved c =
    let a = c.args in
    listing-turn (decoded a.view.now) (walked (decoded a.view.now) a.zone) a.out.now c.loop-count.invariant (omega arith) _ c.successor.ensures _ c.in-Some.is c.requires.0
