-- `encoding::numbers::put` meets its contract.
-- Assumes nothing.
use Rattle.std.proofs.Common.{arith, ◌≡◌, ◌+◌, length, refl}
use Rattle.words.specs.Parts.{put}
use Rattle.encoding.proofs.numbers.put.Goals as goal

pub returns : goal.returns
unfolding put
returns g c =
    let n : 0 + length c.args.words ≡ g.row.N = omega arith in
    rw (c.copy_from_slice.ensures.after, n) refl
