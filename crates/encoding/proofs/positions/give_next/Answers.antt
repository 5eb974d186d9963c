-- `encoding::positions::give_next` meets its contract.
-- Assumes nothing.
use Rattle.std.proofs.Common.{rules, ◌≡◌, None}
use Rattle.encoding.proofs.Walked.{next-ended}
use Rattle.encoding.proofs.positions.give_next.Goals as goal

pub returns-in_default : goal.returns-in_default
returns-in_default c =
    let ended : c.in-Ok.next ≡ None = search rules in
    next-ended c.args.position.now c.args.out.now c.args.answer c.in-Ok.next c.in-Ok.is ended _ _ c.give.ensures
