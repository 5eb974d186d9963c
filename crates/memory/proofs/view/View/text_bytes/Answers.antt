-- `memory::view::View::text_bytes` meets its contract.
-- Assumes nothing.
use Rattle.memory.proofs.PoolAndTable.{field-empty, field-slot}
use Rattle.memory.proofs.view.View.text_bytes.Goals as goal

pub returns-in-None : goal.returns-in-None
returns-in-None c = let s = c.args in field-empty s.self.now.document s.self.now.words.now s.text c.in-None.is

pub returns-in-Some : goal.returns-in-Some
returns-in-Some c = let s = c.args in field-slot s.self.now.document s.self.now.words.now s.text _ c.in-Some.is _ c.slot_bytes.ensures
