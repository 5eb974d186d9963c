-- `reading::order::live_key` meets its contract.
-- Assumes nothing.
use Rattle.reading.proofs.Keyed.{current-key}
use Rattle.reading.proofs.order.live_key.Goals as goal

pub returns-then-view : goal.returns-then-view
returns-then-view c = current-key _ _ _ c.if-view.true c.order_key.ensures
