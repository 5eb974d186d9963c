-- Verdicts as numbers: a refusal is never 0.
-- Assumes nothing.
use mathlib.Core.Path.{◌≡◌, refl, sym, ap, ◌∙◌}
use mathlib.Core.Bool.{Bool}
use Prim.Native.Nat.{ℕ, zero, suc}
use native.Mathlib.Omega.{arith}
use Rattle.std.specs.Prelude.{Result, Ok, Err, IsErrAnd}
use Rattle.model.specs.Refusals.{number_of}
use Rattle.model.specs.declared.Refusal.{Refusal}
use Rattle.model.specs.declared.Refusal.TheVariants.{NotUtf8, InvalidName, InvalidText, BadBuffers, Damaged, Stale, NotAnElement, NotAContainer, NotAChild, NotText, NotRemovable, RootElementExists, WouldCycle, Full, OrderStale}
use Rattle.model.specs.Arguments.{first}
use Rattle.model.specs.Calls.{full_unless}
use Rattle.verdicts.specs.Verdicts.{verdict_number}

-- a refusal is the first of two tests
pub refused_first : (w : Refusal) (m : ℕ) → first (number_of w) m ≡ number_of w
refused_first NotUtf8 m = refl
refused_first InvalidName m = refl
refused_first InvalidText m = refl
refused_first BadBuffers m = refl
refused_first Damaged m = refl
refused_first Stale m = refl
refused_first NotAnElement m = refl
refused_first NotAContainer m = refl
refused_first NotAChild m = refl
refused_first NotText m = refl
refused_first NotRemovable m = refl
refused_first RootElementExists m = refl
refused_first WouldCycle m = refl
refused_first Full m = refl
refused_first OrderStale m = refl

-- the second of two tests where the first accepts
pub accepted_first : (n m : ℕ) → n ≡ 0 → first n m ≡ m
accepted_first zero m e = refl
accepted_first (suc n) m e = absurd (omega arith)

-- what a `?` passes on
pub passed_on : {T : Type 0} (r : Result T Refusal) (w : Refusal) → IsErrAnd r (λ y. y ≡ w) → verdict_number r ≡ number_of w
passed_on (Ok x) w e = absurd e
passed_on (Err y) w e = ap number_of e

-- ---- a test, and what is asked behind it

pub refused_before : {T : Type 0} (r : Result T Refusal) (w : Refusal) (x m : ℕ) → IsErrAnd r (λ y. y ≡ w) → number_of w ≡ x → verdict_number r ≡ first x m
refused_before r w x m e q = passed_on r w e ∙ sym (refused_first w m) ∙ ap (λ (n : ℕ). first n m) q

pub accepted_before : (x m n : ℕ) → 0 ≡ x → n ≡ m → n ≡ first x m
accepted_before x m n e q = q ∙ ap (λ (k : ℕ). first k m) e

-- Full of what was asked
pub full_told : (t x : Bool) (v : ℕ) → t ≡ x → v ≡ full_unless t → v ≡ full_unless x
full_told t x v e q = q ∙ ap full_unless e
