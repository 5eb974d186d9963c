-- `descendants::list::write_below` meets its contract.
-- Assumes nothing.
use Rattle.records.specs.Handles.{word_of}
use Rattle.memory.specs.View.{decoded}
use Rattle.descendants.proofs.Listing.{stale-written, same-written}
use Rattle.descendants.proofs.list.write_below.Goals as goal

pub returns-then-resolves : goal.returns-then-resolves
returns-then-resolves c =
    let a = c.args in
    let q = same-written (decoded a.view.now) (word_of a.id) _ c.from.ensures _ a.out.now _ (c.write_live.ensures.value, c.write_live.ensures.out_after) in
    record { value = q.0; out_after = q.1 }

pub returns-else-resolves : goal.returns-else-resolves
returns-else-resolves c =
    let a = c.args in
    let q = stale-written (decoded a.view.now) (word_of a.id) _ c.resolves.ensures c.if-resolves.false a.out.now in
    record { value = q.0; out_after = q.1 }
