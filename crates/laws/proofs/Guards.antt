-- A call that both sides guard by the same checks matches where it is accepted.
-- Assumes nothing.
use mathlib.Core.Path.{◌≡◌, refl}
use mathlib.Core.Logic.{◌⊎◌, inl, inr}
use mathlib.Core.Bool.{Bool, true, false, cond, ◌&&◌, not}
use Prim.Native.Nat.{ℕ, zero, suc}
use native.Mathlib.Omega.{arith}
use Rattle.model.specs.Doc.{Doc}
use Rattle.model.specs.Arguments.{first, refuse_if}
use Rattle.model.specs.Calls.{guarded, full_unless}
use Rattle.model.specs.Calls as calls
use Rattle.model.specs.Tree.{Tree}
use Rattle.model.specs.Tree as tree
use Rattle.laws.specs.Claim.{no_step, shown, through_handles}
use Rattle.laws.proofs.Wf.{WF}
use Rattle.laws.proofs.Sim.{Sim}

-- both sides made the same step, and answered alike
abbrev pub Same : (ℕ → ℕ) → calls.Out → tree.Out → Type 0
Same hs o u = Sim o.doc u.tree hs × WF u.tree × (shown o.doc o.answer ≡ through_handles hs u.answer)

-- `Matches` of the calls whose answers are compared as they are
abbrev pub Plain : (ℕ → ℕ) → Doc → calls.Out → tree.Out → Type 0
Plain hs d o u = ((no_step o.answer ≡ true) × (o.doc ≡ d)) ⊎ Same hs o u

pub first-zero : (a b : ℕ) → first a b ≡ 0 → (a ≡ 0) × (b ≡ 0)
first-zero zero b e = (refl, e)
first-zero (suc a) b e = absurd (omega arith)

pub first-assoc : (a b c : ℕ) → first (first a b) c ≡ first a (first b c)
first-assoc zero b c = refl
first-assoc (suc a) b c = refl

pub refuse-zero : (q : Bool) (n : ℕ) → refuse_if q (suc n) ≡ 0 → q ≡ false
refuse-zero true n e = absurd (omega arith)
refuse-zero false n e = refl

pub not-false-true : (q : Bool) → not q ≡ false → q ≡ true
not-false-true true e = refl
not-false-true false e = absurd (mathlib.Core.Bool.true≢false e)

-- a stale handle is refused
pub stale-refused : (n : ℕ) → first n 6 ≡ 0 → ⊥
stale-refused zero e = omega arith
stale-refused (suc n) e = omega arith

module _ (d : Doc) (t : Tree) (hs : ℕ → ℕ) (S : Sim d t hs) (W : WF t) where
  pub guarded-same : (n : ℕ) (o : calls.Out) (u : tree.Out) → (n ≡ 0 → Plain hs d o u) → Plain hs d (guarded n d o) (tree.guarded n t u)
  unfolding guarded
  guarded-same zero o u h = h refl
  guarded-same (suc n) o u h = inr (S, W, refl)

  -- Full comes last
  pub full-or : (fits : Bool) (o : calls.Out) (u : tree.Out) → (fits ≡ true → Plain hs d o u) → Plain hs d (guarded (full_unless fits) d o) u
  unfolding guarded
  full-or true o u h = h refl
  full-or false o u h = inl (refl, refl)

  pub guarded-full : (n : ℕ) (fits : Bool) (o : calls.Out) (u : tree.Out) → (n ≡ 0 → fits ≡ true → Plain hs d o u)
      → Plain hs d (guarded (first n (full_unless fits)) d o) (tree.guarded n t u)
  unfolding guarded
  guarded-full zero fits o u h = full-or fits o u (λ f. h refl f)
  guarded-full (suc n) fits o u h = inr (S, W, refl)
