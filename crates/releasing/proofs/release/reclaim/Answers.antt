-- `releasing::release::reclaim` meets its contract.
-- Assumes nothing.
use Rattle.std.proofs.Common.{rules, arith}
use Rattle.releasing.proofs.Released.{markable, reclaimed-to}
use Rattle.releasing.proofs.release.reclaim.Goals as goal

pub mark_free-requires : goal.mark_free-requires
mark_free-requires c =
    let a = c.args in
    let q = markable a.limits a.counts a.words.now c.requires.0 a.marks.now _ c.requires.1 (search rules) (omega arith) in
    record { free_in_bounds = q.0; markable = q.1 }

pub returns : goal.returns
returns c =
    let a = c.args in
    reclaimed-to a.limits a.counts a.words.now c.requires.0 a.marks.now _ c.requires.1 (search rules) _ c.mark_free.ensures _ _ (c.close_gaps-bytes.ensures.words_after, (c.close_gaps-bytes.ensures.value, c.close_gaps-bytes.ensures.upper_bound))
