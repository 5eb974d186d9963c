-- `blocks::insert_into` meets its contract: no room, room in place, or a move.
-- Assumes nothing.
use native.Mathlib.Omega.{arith}
use Rattle.blocks.proofs.Halves.{held-len}
use Rattle.blocks.proofs.Inserts.{spare-fits, moved_more, inserts-full, inserts-in-place, inserts-moved}
use Rattle.blocks.proofs.insert_into.Goals as goal

pub returns-then-limit-used : goal.returns-then-limit-used
returns-then-limit-used c = let q = inserts-full _ _ _ _ _ c.requires _ _ _ (c.entries_for-more.ensures _) c.if-limit-used.true in
    record { value = q.0; arena_after = q.1 }

pub insert_in_place-requires : goal.insert_in_place-requires
insert_in_place-requires c =
    let pre = c.requires in
    (omega (arith, c.min-index.ensures), spare-fits _ _ _ _ _ pre _ (c.entries_for-more.ensures _) c.if-more-eq0.true)

pub returns-then-more-eq0 : goal.returns-then-more-eq0
returns-then-more-eq0 c =
    let q = inserts-in-place _ _ _ _ _ c.requires _ _ _ (c.entries_for-more.ensures _) c.if-limit-used.false _ c.min-index.ensures c.if-more-eq0.true _ c.insert_in_place.ensures in
    record { value = q.0; arena_after = q.1 }

pub move_block_with-requires : goal.move_block_with-requires
move_block_with-requires c =
    let pre = c.requires in record {
      arena_len = pre.twice;
      at_le_len = (
        omega (arith, c.min-index.ensures),
        held-len _ _ _ _ _ pre,
        moved_more _ _ _ _ _ pre _ (c.entries_for-more.ensures _) c.if-more-eq0.false,
        omega (arith, c.if-limit-used.false, pre.fits),
      );
    }

pub returns : goal.returns
returns c =
    let q = inserts-moved _ _ _ _ _ c.requires _ _ _ (c.entries_for-more.ensures _) c.if-limit-used.false _ c.min-index.ensures c.if-more-eq0.false _ c.move_block_with.ensures in
    record { value = q.0; arena_after = q.1 }
