-- The removal of an attribute that was found, and of none.
-- Assumes nothing.
use Rattle.std.specs.Prelude.{Option, None, Some}
use mathlib.Core.Path.{◌≡◌, refl, ap, ◌∙◌}
use mathlib.Core.Bool.{Bool, true, false}
use mathlib.Core.List.{List, [], ◌∷◌}
use Prim.Native.Nat.{ℕ}
use Rattle.names.specs.Table.{name}
use Rattle.model.specs.Kinds.{Kind, root, element, attribute, text, comment, namespace, instruction, Which, children, attributes, namespaces, which_of, is_root}
use Rattle.model.specs.Doc.{Doc, resolves, kind_at, view_at}
use Rattle.model.specs.Arguments.{not_utf8}
use Rattle.model.specs.Checks.{an_element, check_remove_attribute}
use Rattle.model.specs.Calls.{answers, truth, remove-attribute, removed, remove_attribute_found, find_attribute, step}
use Rattle.layout.specs.declared.Document.{Document}
use Rattle.memory.specs.Decode.{decode}
use Rattle.memory.specs.Step.{Step}
use Rattle.memory.specs.Performed.{Admitted, Performed}
use Rattle.lookup.proofs.Found.{found-attribute}
use Rattle.edits.proofs.Accepted.{guard_passed, guard-open, element-there, performed}
use Rattle.laws.proofs.Guards.{first-zero}

-- no attribute is the Root
not_root : (k : Kind ℕ (Option ℕ)) → which_of k ≡ attributes → is_root k ≡ false
not_root root e = (let z : is_attributes children ≡ true = ap is_attributes e in absurd (mathlib.Core.Bool.false≢true z))
  where
    is_attributes : Which → Bool
    is_attributes children = false
    is_attributes attributes = true
    is_attributes namespaces = false
not_root (element n) e = refl
not_root (attribute n v) e = refl
not_root (text t) e = refl
not_root (comment t) e = refl
not_root (namespace p u) e = refl
not_root (instruction t c) e = refl

module _ (d : Document) (mem : List ℕ) (e : ℕ) (ns local : List ℕ) (a : Admitted (remove-attribute e ns local) d mem) where
  abbrev D : Doc
  D = decode d mem

  found-out : (f : Option ℕ) → find_attribute D e (name ns local) ≡ f → step (remove-attribute e ns local) D ≡ remove_attribute_found f D
  found-out f q =
      guard-open (check_remove_attribute ns local (view_at D e)) D (remove_attribute_found (find_attribute D e (name ns local)) D) a.accepted
      ∙ ap (λ (x : Option ℕ). remove_attribute_found x D) q

  module _ (h : ℕ) (q : find_attribute D e (name ns local) ≡ Some h) where
    pub found_removable : (resolves (decode d mem) h ≡ true) × (is_root (kind_at (decode d mem) h) ≡ false)
    found_removable =
        let z = guard_passed (check_remove_attribute ns local (view_at D e)) D (remove_attribute_found (find_attribute D e (name ns local)) D) a.accepted in
        let live = (element-there D e (first-zero (not_utf8 (ns ∷ local ∷ [])) (an_element (view_at D e)) z).1).0 in
        let f = found-attribute D a.undamaged.rules e live (name ns local) h q in
        (f.live, not_root (kind_at D h) f.which)

    pub removes_found : (r : Document) (mem' : List ℕ) → Step d mem r mem' (removed (decode d mem) h) → Performed (remove-attribute e ns local) d mem (truth true) r mem'
    removes_found r mem' s =
        performed (remove-attribute e ns local) d mem (answers (removed D h) (truth true)) (found-out (Some h) q) (truth true) refl r mem' s

  pub removes_none : find_attribute (decode d mem) e (name ns local) ≡ None → Performed (remove-attribute e ns local) d mem (truth false) d mem
  removes_none q =
      performed (remove-attribute e ns local) d mem (answers D (truth false)) (found-out None q) (truth false) refl d mem
      (record { document = refl; limits = refl; size = refl; past = refl })
