-- `memory::read::arena_used` meets its contract.
-- Assumes nothing.
use Rattle.memory.proofs.Reading.{used-read}
use Rattle.memory.proofs.read.arena_used.Goals as goal

pub returns-in-Children : goal.returns-in-Children
returns-in-Children c =
    let a = c.args in
    used-read a.d a.arena _ _ _ c.arena_limit-limit.ensures (rw c.in-Children.is) c.min.ensures

pub returns-in-Attributes : goal.returns-in-Attributes
returns-in-Attributes c =
    let a = c.args in
    used-read a.d a.arena _ _ _ c.arena_limit-limit.ensures (rw c.in-Attributes.is) c.min-in-Attributes.ensures

pub returns-in-Namespaces : goal.returns-in-Namespaces
returns-in-Namespaces c =
    let a = c.args in
    used-read a.d a.arena _ _ _ c.arena_limit-limit.ensures (rw c.in-Namespaces.is) c.min-in-Namespaces.ensures
