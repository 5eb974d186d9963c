-- `reading::list::entries` meets its contract.
-- Assumes nothing.
use mathlib.Core.Path.{sym}
use native.Mathlib.Omega.{arith}
use Rattle.layout.specs.Layout.{which_of}
use Rattle.memory.specs.Decode.{block_of}
use Rattle.reading.proofs.Listed.{entries-none, entries-outside, entries-inside}
use Rattle.reading.proofs.list.entries.Goals as goal
use Rattle.reading.proofs.list.entries.Goals.{in_default-via-in-Ok+else-end-arena_used, in_default-via-in_default}

pub returns-in-Ok : goal.returns-in-Ok
returns-in-Ok c =
    let a = c.args in
    let e = c.in-Ok.ensures in
    entries-inside a.d a.mem.now (which_of a.arena) (block_of a.block) e.0 (omega arith) c.block_words.result.now (rw (sym e.1, sym e.2) c.block_words.ensures)

pub returns-in_default : goal.returns-in_default
returns-in_default c =
    let a = c.args in
    elim c.in_default.branch [
      | in_default-via-in-Ok+else-end-arena_used w ↦ entries-outside a.d a.mem.now (which_of a.arena) (block_of a.block) w.in-Ok.ensures.0 (omega arith)
      | in_default-via-in_default w ↦ entries-none a.d a.mem.now (which_of a.arena) (block_of a.block) w.in_default.ensures.0
    ]
