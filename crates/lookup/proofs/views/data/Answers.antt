-- `lookup::views::data` meets its contract.
-- Assumes nothing.
use native.Mathlib.Omega.{arith}
use Rattle.std.proofs.Common.{rules}
use Rattle.lookup.proofs.Viewed.{data-shown}
use Rattle.lookup.proofs.views.data.Goals as goal

pub returns : goal.returns
returns c =
    let v = c.args.view.now in
    data-shown v.document v.words.now c.args.id (omega arith) (omega arith) _ _ _ c.resolve.ensures c.map.ensures.cases (λ m v k. search rules) c.ok_or.ensures.value
