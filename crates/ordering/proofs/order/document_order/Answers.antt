-- `ordering::order::document_order` meets its contract.
-- Assumes nothing.
use mathlib.Core.Path.{◌≡◌, refl, sym, ap, ◌∙◌}
use Prim.Native.Nat.{ℕ}
use lib.ListN.{length, replicate}
use borrow.Author.Rules.{rules}
use Rattle.model.specs.Calls.{document-order}
use Rattle.memory.specs.Decode.{decode}
use Rattle.walks.proofs.Walkable.{rules-walkable}
use Rattle.editing.proofs.Editing.{passed_on, unadmitted, scratch-enough, edited, remains}
use Rattle.ordering.proofs.Current.{stands, renews, renewing}
use Rattle.ordering.proofs.order.document_order.Goals as goal

pub returns-in_err-admit : goal.returns-in_err-admit
returns-in_err-admit c =
    rw (passed_on _ _ c.from_residual.ensures.1) (unadmitted document-order c.args.d c.args.mem.now c.args.scratch.now _ c.in_err-admit.ensures.result_value _ c.admit.ensures.scratch_after)

pub returns-then-d : goal.returns-then-d
returns-then-d c =
    remains document-order c.args.d c.args.mem.now c.args.scratch.now c.in_ok-admit.ensures.result_value _ refl
    (stands c.args.d c.args.mem.now c.in_ok-admit.ensures.ready.2.undamaged.memory c.if-d.true) _ c.admit.ensures.scratch_after

pub renew_order-requires : goal.renew_order-requires
renew_order-requires c =
    let ready = c.in_ok-admit.ensures.ready.2 in
    (scratch-enough c.args.d c.args.mem.now _ ready, rules-walkable (decode c.args.d c.args.mem.now) ready.undamaged.rules)

pub returns : goal.returns
returns c =
    let e : length c.renew_order.new.scratch ≡ length c.admit.new.scratch = search rules in
    let ready = c.in_ok-admit.ensures.ready.2 in
    let left = c.renew_order.ensures.lent_after in
    renewing _ _ _ _ _ c.renew_order.new.lent.words.now _ (search rules)
    (edited document-order c.args.d c.args.mem.now c.args.scratch.now c.in_ok-admit.ensures.result_value _ _ _ refl
    (renews c.args.d c.args.mem.now ready.undamaged.memory _ _ left.record_is left.words_are c.if-d.false)
    _ (c.fill.ensures.after (λ y k. k) ∙ ap (λ (n : ℕ). replicate n 0) e ∙ sym ready.zero ∙ c.admit.ensures.scratch_after))
