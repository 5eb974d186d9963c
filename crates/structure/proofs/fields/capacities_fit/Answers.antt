-- `structure::fields::capacities_fit` meets its contract.
-- Assumes nothing.
use Prim.Native.Nat.{◌+◌}
use native.Mathlib.Omega.{arith}
use lib.ListN.{length}
use Rattle.words.proofs.Parts.{lent}
use Rattle.layout.specs.Layout.{which_of}
use Rattle.layout.proofs.Sizes.{sizes}
use Rattle.structure.proofs.CountsAndFields.{capacities-within, capacities-read}
use Rattle.structure.proofs.fields.capacities_fit.Goals as goal

pub overflow_add-start : goal.overflow_add-start
overflow_add-start c =
    let v = c.args.view.now in
    let w = which_of c.args.arena in
    let z = sizes v.document (length v.words.now) v.fits in
    omega (arith, z.narrow w, c.arena_at.ensures, c.arena_limit.ensures)

pub overflow_add-end : goal.overflow_add-end
overflow_add-end c =
    let v = c.args.view.now in
    let f = capacities-within v.document (which_of c.args.arena) v.words.now _ _ _ c.arena_at.ensures c.arena_limit.ensures c.arena_used.ensures v.fits in
    omega (arith, f.inside, f.narrow)

pub offset_bounds-view-start : goal.offset_bounds-view-start
offset_bounds-view-start c =
    let v = c.args.view.now in
    let f = capacities-within v.document (which_of c.args.arena) v.words.now _ _ _ c.arena_at.ensures c.arena_limit.ensures c.arena_used.ensures v.fits in
    omega (arith, f.inside, f.narrow)

pub slice_bounds-capacity-items-end : goal.slice_bounds-capacity-items-end
slice_bounds-capacity-items-end c =
    let v = c.args.view.now in
    let f = capacities-within v.document (which_of c.args.arena) v.words.now _ _ _ c.arena_at.ensures c.arena_limit.ensures c.arena_used.ensures v.fits in
    omega (arith, f.inside, f.narrow)

pub overflow_add-upper : goal.overflow_add-upper
overflow_add-upper c =
    let v = c.args.view.now in
    let f = capacities-within v.document (which_of c.args.arena) v.words.now _ _ _ c.arena_at.ensures c.arena_limit.ensures c.arena_used.ensures v.fits in
    omega (arith, f.short, c.loop-capacity.invariant.0)

pub returns : goal.returns
returns c =
    let a = c.args in
    let v = c.args.view.now in
    let e = lent v.words.now (c.arena_at.result + c.arena_limit.result) c.arena_used.result in
    capacities-read v.document (which_of a.arena) v.words.now _ _ _ c.arena_at.ensures c.arena_limit.ensures c.arena_used.ensures v.fits _ e _ c.loop-capacity.upper c.loop-capacity.auto.capacity-index-end c.loop-capacity-test.false c.loop-capacity.invariant.1
