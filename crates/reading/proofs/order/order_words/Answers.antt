-- `reading::order::order_words` meets its contract.
-- Assumes nothing.
use mathlib.Core.Path.{sym}
use Rattle.reading.proofs.Orders.{order-inside}
use Rattle.reading.proofs.order.order_words.Goals as goal

pub returns-in-Ok : goal.returns-in-Ok
returns-in-Ok c =
    let v = c.in-Ok.view in
    let e = c.in-Ok.ensures in
    rw (sym e.1, sym e.2) (order-inside v.document v.words.now v.fits _ c.order_words.ensures)
