-- One list or one parent of the plain tree changed.
-- Assumes nothing.
use Rattle.std.specs.Prelude.{Option}
use mathlib.Core.Path.{◌≡◌, sym, ap, ◌∙◌}
use mathlib.Core.Logic.{◌⊎◌, inl, inr}
use mathlib.Core.Bool.{false, true≢false}
use mathlib.Core.List.{List}
use Prim.Native.Nat.{ℕ}
use native.Mathlib.Decide.{ℕ_discrete}
use Rattle.model.specs.Kinds.{Which, same_which}
use Rattle.model.specs.Edits.{update_which}
use Rattle.model.specs.Tree.{update}
use Rattle.laws.proofs.Wf.{Ends, Clear}
use Rattle.laws.proofs.Basics.{update_same, update_other, same_which-refl, which-cases}

-- ---- one list

pub list-at : (f : Which → ℕ → List ℕ) (w : Which) (p : ℕ) (l : List ℕ) → update_which f w (update (f w) p l) w p ≡ l
list-at f w p l = rw (same_which-refl w) (update_same (f w) p l)

pub list_cases : (f : Which → ℕ → List ℕ) (w : Which) (p : ℕ) (l : List ℕ) (v : Which) (q : ℕ)
    → ((v ≡ w) × (q ≡ p)) ⊎ ((v ≡ w → q ≡ p → ⊥) × (update_which f w (update (f w) p l) v q ≡ f v q))
list_cases f w p l v q = go (which-cases v w) (ℕ_discrete q p)
  where
    go : (v ≡ w) ⊎ (same_which v w ≡ false) → Dec (q ≡ p)
        → ((v ≡ w) × (q ≡ p)) ⊎ ((v ≡ w → q ≡ p → ⊥) × (update_which f w (update (f w) p l) v q ≡ f v q))
    go (inl e) (yes g) = inl (e, g)
    go (inl e) (no n) = inr ((λ _ g. n g), rw (e, same_which-refl w) (update_other (f w) p l q n))
    go (inr e) dq = inr ((λ g _. true≢false (sym (same_which-refl w) ∙ ap (λ (u : Which). same_which u w) (sym g) ∙ e)), rw e)

-- ---- one parent

module _ {parent : ℕ → Option ℕ} {b : ℕ} where
  pub clear-ends : {x : ℕ} → Clear parent b x → Ends parent x
  clear-ends (Clear.top n e) = Ends.top e
  clear-ends (Clear.up q n e r) = Ends.up q e (clear-ends r)

  module _ (v : Option ℕ) where
    -- a walk that avoids b does not see its parent
    pub clear-update : {x : ℕ} → Clear parent b x → Clear (update parent b v) b x
    clear-update {x} (Clear.top n e) = Clear.top n (update_other parent b v x n ∙ e)
    clear-update {x} (Clear.up q n e r) = Clear.up q n (update_other parent b v x n ∙ e) (clear-update r)

    -- walks end where that from b still does
    pub ends-update : Ends (update parent b v) b → {x : ℕ} → Ends parent x → Ends (update parent b v) x
    ends-update h {x} (Ends.top e) = go h (ℕ_discrete x b)
      where
        go : Ends (update parent b v) b → Dec (x ≡ b) → Ends (update parent b v) x
        go h (yes f) = rw f h
        go h (no n) = Ends.top (update_other parent b v x n ∙ e)
    ends-update h {x} (Ends.up q e r) = go h (ends-update h r) (ℕ_discrete x b)
      where
        go : Ends (update parent b v) b → Ends (update parent b v) q → Dec (x ≡ b) → Ends (update parent b v) x
        go h ih (yes f) = rw f h
        go h ih (no n) = Ends.up q (update_other parent b v x n ∙ e) ih
