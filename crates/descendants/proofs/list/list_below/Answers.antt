-- `descendants::list::list_below` meets its contract.
-- Assumes nothing.
use Rattle.std.proofs.Common.{rules, ◌≡◌, sym, Err}
use Rattle.records.specs.Handles.{word_of}
use Rattle.descendants.proofs.Listing.{list-refused, list_written}
use Rattle.descendants.proofs.list.list_below.Goals as goal

pub returns-in_err-view : goal.returns-in_err-view
returns-in_err-view c =
    let a = c.args in
    let e : c.from_residual.result ≡ Err c.in_err-view.field-0.0 = search rules in
    rw e (list-refused a.d a.mem.now (word_of a.id) a.out.now _ c.in_err-view.ensures)

pub returns : goal.returns
returns c =
    let a = c.args in
    let v = c.in_ok-view.view in
    let e = c.in_ok-view.ensures in
    rw (sym e.1, sym e.2) (list_written v.document v.words.now (word_of a.id) a.out.now (rw (e.1, e.2) e.0) _ _ (c.write_below.ensures.value, c.write_below.ensures.out_after))
