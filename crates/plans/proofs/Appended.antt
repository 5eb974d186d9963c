-- The plans of the calls that append a child, over plain values.
-- Assumes nothing.
use Rattle.std.specs.Prelude.{None, Some}
use mathlib.Core.Path.{◌≡◌, refl, sym, ap, ◌∙◌}
use mathlib.Core.Bool.{Bool, true, false, ◌&&◌, cond}
use mathlib.Core.List.{List, [], ◌∷◌}
use Prim.Native.Nat.{ℕ}
use native.Mathlib.Omega.{arith}
use Rattle.model.specs.Kinds.{is_root}
use Rattle.model.specs.Doc.{Doc, resolves, node_at, view_at, any_option}
use Rattle.model.specs.Arguments.{first, not_utf8, comment_check, instruction_check, name_check, namespace_check, refuse_if}
use Rattle.model.specs.Checks.{View, container, text_under, check_append_text, check_append_comment, check_append_pi, check_append_element}
use Rattle.laws.proofs.Guards.{first-zero}

-- a check with this test in it was passed: the handle resolves
module _ (D : Doc) (h : ℕ) where
  stale-view : resolves D h ≡ false → view_at D h ≡ None
  stale-view e = ap (λ (t : Bool). cond t (Some (node_at D h)) None) e

  pub live-accepted : (f : View → ℕ) → f None ≡ 6 → f (view_at D h) ≡ 0 → resolves D h ≡ true
  live-accepted f six z = go (resolves D h) refl
    where
      go : (r : Bool) → resolves D h ≡ r → resolves D h ≡ true
      go true s = s
      go false s =
          let w : ◌≡◌ {A = ℕ} 6 0 = sym six ∙ sym (ap f (stale-view s)) ∙ z in
          absurd (omega arith)

  -- the test comes behind that of the arguments
  pub live-behind : (f : View → ℕ) → f None ≡ 6 → (a b : ℕ) → first a (first (f (view_at D h)) b) ≡ 0 → resolves D h ≡ true
  live-behind f six a b z = live-accepted f six (first-zero (f (view_at D h)) b (first-zero a (first (f (view_at D h)) b) z).1).0

  pub text_parent : (t : List ℕ) → check_append_text t (view_at D h) ≡ 0 → resolves D h ≡ true
  text_parent t z = live-behind container refl (not_utf8 (t ∷ [])) (text_under (any_option is_root (view_at D h)) t) z

  pub comment_parent : (t : List ℕ) → check_append_comment t (view_at D h) ≡ 0 → resolves D h ≡ true
  comment_parent t z = live-behind container refl (not_utf8 (t ∷ [])) (comment_check t) z

  pub pi_parent : (s t : List ℕ) → check_append_pi s t (view_at D h) ≡ 0 → resolves D h ≡ true
  pi_parent s t z = live-behind container refl (not_utf8 (s ∷ t ∷ [])) (instruction_check s t) z

  pub element_parent : (ns local : List ℕ) (taken : Bool) → check_append_element ns local (view_at D h) taken ≡ 0 → resolves D h ≡ true
  element_parent ns local taken z =
      live-behind container refl (not_utf8 (ns ∷ local ∷ [])) (first (refuse_if (any_option is_root (view_at D h) && taken) 12) (first (name_check local) (namespace_check ns))) z
