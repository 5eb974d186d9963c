-- The order as it stands, and renewed, as `document_order` answers it.
-- Assumes nothing.
use mathlib.Core.Path.{◌≡◌, refl, sym, ap, ◌∙◌}
use mathlib.Core.Bool.{Bool, true, false, cond}
use mathlib.Core.List.{List}
use Prim.Native.Nat.{ℕ}
use lib.ListN.{length, take}
use Rattle.model.specs.Doc.{Doc}
use Rattle.model.specs.Edits.{order_of, renew_order}
use Rattle.model.specs.Calls.{Answered, keys, document-order}
use Rattle.layout.specs.declared.Document.{Document}
use Rattle.layout.specs.Layout.{memory_ok}
use Rattle.memory.specs.Decode.{decode}
use Rattle.memory.specs.Step.{Step}
use Rattle.layout.specs.Record.{renewed}
use Rattle.reading.specs.Answers.{order_shown}
use Rattle.reading.proofs.Orders.{order-shown}
use Rattle.edits.proofs.Composed.{step-as}
use Rattle.walks.specs.Order.{put_orders}
use Rattle.walks.proofs.Cleared.{renewed-step}
use Rattle.memory.specs.Performed.{Performed}
use Rattle.editing.specs.Contract.{Edits}

abbrev shown_keys : List ℕ → Answered
shown_keys l = keys l

module _ (d : Document) (mem : List ℕ) (ok : memory_ok d (length mem) ≡ true) where
  -- a current order stays
  pub stands : d.current ≡ true → Performed document-order d mem (keys (order_shown d mem)) d mem
  stands e =
      let D = decode d mem in
      let h : D ≡ cond d.current D (renew_order D) = sym (ap (λ (q : Bool). cond q D (renew_order D)) e) in
      record {
        answer = ap shown_keys (order-shown d mem ok) ∙ ap (λ (x : Doc). shown_keys (take (length x.gens) x.order)) h;
        change = record { document = h; limits = refl; size = refl; past = refl };
      }

  -- one that is not is renewed
  module _ (r : Document) (mem' : List ℕ) (e : r ≡ renewed d) (q : mem' ≡ put_orders d (order_of (decode d mem)) mem) where
    change : Step d mem r mem' (renew_order (decode d mem))
    change = renewed-step d mem ok r mem' e q

    ok' : memory_ok r (length mem') ≡ true
    unfolding memory_ok
    ok' = ap (λ (x : Document). memory_ok x (length mem')) e ∙ ap (memory_ok (renewed d)) change.size ∙ ok

    pub renews : d.current ≡ false → Performed document-order d mem (keys (order_shown r mem')) r mem'
    renews f =
        let D = decode d mem in
        let h : renew_order D ≡ cond d.current D (renew_order D) = sym (ap (λ (q : Bool). cond q D (renew_order D)) f) in
        record {
          answer = ap shown_keys (order-shown r mem' ok') ∙ ap (λ (x : Doc). shown_keys (take (length x.gens) x.order)) (change.document ∙ h);
          change = step-as d mem r mem' (renew_order D) (cond d.current D (renew_order D)) change h;
        }

-- the keys are those of the memory that was lent to the renewal
pub renewing : (d r : Document) (mem s s' w mem' : List ℕ) → mem' ≡ w → Edits document-order d mem s (keys (order_shown r w)) r w s' → Edits document-order d mem s (keys (order_shown r mem')) r mem' s'
renewing d r mem s s' w mem' e h = rw e h
