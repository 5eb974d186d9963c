-- The plans of the calls that search an element's list, over plain values.
-- Assumes nothing.
use mathlib.Core.Path.{◌≡◌, refl}
use mathlib.Core.Bool.{Bool, true, false, ◌&&◌}
use mathlib.Core.List.{List, [], ◌∷◌}
use Prim.Native.Nat.{ℕ}
use Rattle.std.specs.Prelude.{Option, None, Some, is_some}
use Rattle.records.specs.declared.NodeId.{NodeId}
use Rattle.memory.specs.Decode.{handle_of}
use Rattle.model.specs.Doc as doc
use lib.ListN.{length}
use Rattle.texts.specs.Pool.{slots_for}
use Rattle.names.specs.Table.{Name}
use Rattle.model.specs.Kinds.{attributes, namespaces}
use Rattle.model.specs.Doc.{Doc, resolves, view_at}
use Rattle.model.specs.Rules.{Rules}
use Rattle.model.specs.Arguments.{first, not_utf8}
use Rattle.model.specs.Checks.{an_element, declaration_check, check_declare_namespace}
use Rattle.model.specs.Calls.{full_unless, node_fits, text_fits, name_fits_in, two_fit, replacement_fits, replaceable_at, find_attribute, find_namespace, set_attribute_found, declare_namespace_found}
use Rattle.verdicts.specs.Verdicts.{refusal_number}
use Rattle.plans.proofs.Appended.{live-accepted, live-behind}
use Rattle.lookup.proofs.Found.{found-attribute, found-namespace}
use Rattle.verdicts.proofs.Refusing.{number-guarded}

-- Full, of two needs
pub full_both : (x y : Bool) → full_unless (x && y) ≡ first (full_unless x) (full_unless y)
full_both true y = refl
full_both false y = refl

-- whether something was found
pub found_some : (l : Option NodeId) → doc.is_some (handle_of l) ≡ is_some l
found_some None = refl
found_some (Some h) = refl

-- ---- what was found is replaced, else a node is new

module _ (D : Doc) (e : ℕ) where
  module _ (R : Rules D) (live : resolves D e ≡ true) (h : ℕ) where
    pub attribute_live : (n : Name) → find_attribute D e n ≡ Some h → resolves D h ≡ true
    attribute_live n q = (found-attribute D R e live n h q).live

    pub namespace_live : (p : List ℕ) → find_namespace D e p ≡ Some h → resolves D h ≡ true
    namespace_live p q = (found-namespace D R e live p h q).live

  pub set_found : (w : ℕ) (n : Name) (t : List ℕ) → refusal_number (set_attribute_found (Some w) D e n t).answer ≡ full_unless (replacement_fits D (replaceable_at D w) t)
  set_found w n t = number-guarded _ D _ refl

  pub set_new : (n : Name) (t : List ℕ) → refusal_number (set_attribute_found None D e n t).answer ≡ full_unless (name_fits_in D n && (text_fits D (slots_for t) 0 (length t) && node_fits D attributes e))
  set_new n t = number-guarded _ D _ refl

  pub declare_found : (w : ℕ) (p t : List ℕ) → refusal_number (declare_namespace_found (Some w) D e p t).answer ≡ full_unless (replacement_fits D (replaceable_at D w) t)
  declare_found w p t = number-guarded _ D _ refl

  pub declare_new : (p t : List ℕ) → refusal_number (declare_namespace_found None D e p t).answer ≡ full_unless (two_fit D p t && node_fits D namespaces e)
  declare_new p t = number-guarded _ D _ refl

  -- ---- the checks were passed: the element resolves

  pub element_live : an_element (view_at D e) ≡ 0 → resolves D e ≡ true
  element_live z = live-accepted D e an_element refl z

  pub declare_live : (prefix uri : List ℕ) → check_declare_namespace prefix uri (view_at D e) ≡ 0 → resolves D e ≡ true
  declare_live prefix uri z = live-behind D e an_element refl (not_utf8 (prefix ∷ uri ∷ [])) (declaration_check prefix uri) z
