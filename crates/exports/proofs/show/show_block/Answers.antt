-- `exports::show::show_block` meets its contract.
-- Assumes nothing.
use native.Mathlib.Omega.{arith}
use Prim.Native.Nat.{◌+◌, ◌≤◌}
use Rattle.layout.specs.Layout.{which_of}
use Rattle.exports.proofs.Beyond.{no-entries}
use Rattle.exports.proofs.show.show_block.Goals as goal
use Rattle.exports.proofs.show.show_block.Goals.{then-start-ge4294967296-via-then-start-ge4294967296, then-start-ge4294967296-via-else-start-ge4294967296+then-len-ge4294967296}

pub returns-then-start-ge4294967296 : goal.returns-then-start-ge4294967296
returns-then-start-ge4294967296 c =
    let far : 4294967296 ≤ c.args.start + c.args.len =
    elim c.then-start-ge4294967296.branch [
      | then-start-ge4294967296-via-then-start-ge4294967296 w ↦ omega (arith, w.if-start-ge4294967296.true)
      | then-start-ge4294967296-via-else-start-ge4294967296+then-len-ge4294967296 w ↦ omega (arith, w.if-len-ge4294967296.true)
    ] in
    no-entries c.args.d c.args.memory.now (which_of c.args.arena) c.args.start c.args.len far
