-- `exports::show::give` meets its contract.
-- Assumes nothing.
use mathlib.Core.Path.{refl}
use Rattle.exports.proofs.Showing.{shown-all, shown-none}
use Rattle.exports.proofs.show.give.Goals as goal

pub returns-then-n-out : goal.returns-then-n-out
returns-then-n-out c =
    (refl, shown-all c.args.words.now c.args.out.now _ c.if-n-out.true c.write_words.ensures)

pub returns-else-n-out : goal.returns-else-n-out
returns-else-n-out c = (refl, shown-none c.args.words.now c.args.out.now c.if-n-out.false)
