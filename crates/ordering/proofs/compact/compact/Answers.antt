-- `ordering::compact::compact` meets its contract.
-- Assumes nothing.
use mathlib.Core.Path.{◌≡◌, refl, sym, ap, ◌∙◌}
use Prim.Native.Nat.{ℕ}
use lib.ListN.{length, replicate}
use borrow.Author.Rules.{rules}
use Rattle.model.specs.Calls.{compact}
use Rattle.editing.proofs.Editing.{passed_on, unadmitted, scratch-enough, performs}
use Rattle.ordering.proofs.compact.compact.Goals as goal

pub returns-in_err-admit : goal.returns-in_err-admit
returns-in_err-admit c =
    rw (passed_on _ _ c.from_residual.ensures.1) (unadmitted compact c.args.d c.args.mem.now c.args.scratch.now _ c.in_err-admit.ensures.result_value _ c.admit.ensures.scratch_after)

pub do_compact-requires : goal.do_compact-requires
do_compact-requires c =
    let ready = c.in_ok-admit.ensures.ready.2 in
    (scratch-enough c.args.d c.args.mem.now _ ready, ready.undamaged.rules)

pub returns : goal.returns
returns c =
    let e : length c.do_compact.new.scratch ≡ length c.admit.new.scratch = search rules in
    performs compact c.args.d c.args.mem.now c.args.scratch.now c.in_ok-admit.ensures.result_value _ _ c.do_compact.new.lent refl refl refl c.do_compact.ensures _ (search rules)
    _ (c.fill.ensures.after (λ y k. k) ∙ ap (λ (n : ℕ). replicate n 0) e ∙ sym c.in_ok-admit.ensures.ready.2.zero ∙ c.admit.ensures.scratch_after)
