-- `structure::check::check_passes` meets its contract.
-- Assumes nothing.
use mathlib.Core.Path.{◌∙◌}
use Rattle.structure.proofs.CountsAndFields.{counts-tested, texts-below, words-fit}
use Rattle.structure.proofs.Turns.{each-refused, pool-decides}
use Rattle.structure.proofs.check.check_passes.Goals as goal

pub invariant_of-nodes : goal.invariant_of-nodes
invariant_of-nodes c =
    let v = c.args.view.now in
    record { words = words-fit v.document v.words.now c.requires.1 }

pub invariant_of-bounded : goal.invariant_of-bounded
invariant_of-bounded c =
    let v = c.args.view.now in
    record { texts = texts-below v.document (counts-tested v.document v.words.now c.requires.1) }

pub check_pool-requires-clause-counts : goal.check_pool-requires-clause-counts
check_pool-requires-clause-counts c =
    let v = c.args.view.now in
    counts-tested v.document v.words.now c.requires.1

pub returns-else-check_each : goal.returns-else-check_each
returns-else-check_each c =
    let v = c.args.view.now in
    c.if-check_each.false ∙ each-refused v.document v.words.now v.fits (counts-tested v.document v.words.now c.requires.1) _ _ c.check_each.ensures c.if-check_each.false

pub returns-then-check_each : goal.returns-then-check_each
returns-then-check_each c =
    let v = c.args.view.now in
    pool-decides v.document v.words.now v.fits (counts-tested v.document v.words.now c.requires.1) _ _ c.check_each.ensures c.if-check_each.true _ c.check_pool.ensures
