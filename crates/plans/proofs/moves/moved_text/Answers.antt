-- `plans::moves::moved_text` meets its contract.
-- Assumes nothing.
use Rattle.plans.proofs.Moved.{moved-passed, moved_refused}
use Rattle.plans.proofs.moves.moved_text.Goals as goal

pub returns-in-Ok : goal.returns-in-Ok
returns-in-Ok c = let s = c.args in moved-passed s.under_root s.text.now _ c.check_text.ensures c.in-Ok.is _ c.not_space.ensures

pub returns-in-Err : goal.returns-in-Err
returns-in-Err c = let s = c.args in moved_refused s.under_root s.text.now _ c.check_text.ensures _ c.in-Err.is
