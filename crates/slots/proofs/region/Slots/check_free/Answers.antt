-- `slots::region::Slots::check_free` meets its contract. What was counted is compared with what is due.
-- Assumes nothing.
use Rattle.std.proofs.Common.{arith}
use Rattle.slots.proofs.FreeRule.{checked, checked-not}
use Rattle.slots.proofs.region.Slots.check_free.Goals as goal

pub returns-then-count_entries : goal.returns-then-count_entries
returns-then-count_entries c = checked _ _ _ _ _ _ c.count_entries.ensures (omega arith) c.if-count_entries.true _ c.match_marks.ensures

pub returns-else-count_entries : goal.returns-else-count_entries
returns-else-count_entries c = checked-not _ _ _ _ _ _ c.count_entries.ensures (omega arith) c.if-count_entries.false
