-- What a kind's number in the words tells of the kind.
-- Assumes nothing.
use Rattle.std.specs.Prelude.{Option}
use mathlib.Core.Path.{◌≡◌, refl}
use Prim.Native.Nat.{ℕ}
use lib.Dec.{eqb, leb}
use Rattle.model.specs.Kinds.{Kind, root, element, attribute, text, comment, namespace, instruction, children, same_which, which_of, is_container, is_element, is_root, owns}
use Rattle.entries.specs.Nodes.{kind_number}
use Rattle.structure.specs.Tests.{child_number, owns_number}

pub root-kind : (k : Kind ℕ (Option ℕ)) → eqb (kind_number k) 0 ≡ is_root k
root-kind root = refl
root-kind (element n) = refl
root-kind (attribute n v) = refl
root-kind (text t) = refl
root-kind (comment t) = refl
root-kind (namespace p u) = refl
root-kind (instruction t c) = refl

pub child-kind : (k : Kind ℕ (Option ℕ)) → child_number (kind_number k) ≡ same_which (which_of k) children
unfolding child_number
child-kind root = refl
child-kind (element n) = refl
child-kind (attribute n v) = refl
child-kind (text t) = refl
child-kind (comment t) = refl
child-kind (namespace p u) = refl
child-kind (instruction t d) = refl

container-kind : (k : Kind ℕ (Option ℕ)) → leb (kind_number k) 1 ≡ is_container k
container-kind root = refl
container-kind (element n) = refl
container-kind (attribute n v) = refl
container-kind (text t) = refl
container-kind (comment t) = refl
container-kind (namespace p u) = refl
container-kind (instruction t d) = refl

pub element-kind : (k : Kind ℕ (Option ℕ)) → eqb (kind_number k) 1 ≡ is_element k
element-kind root = refl
element-kind (element n) = refl
element-kind (attribute n v) = refl
element-kind (text t) = refl
element-kind (comment t) = refl
element-kind (namespace p u) = refl
element-kind (instruction t d) = refl

pub owns-kind : (q k : Kind ℕ (Option ℕ)) → owns_number (kind_number q) (kind_number k) ≡ owns (which_of k) q
unfolding owns_number child_number
owns-kind q root = container-kind q
owns-kind q (element n) = container-kind q
owns-kind q (attribute n v) = element-kind q
owns-kind q (text t) = container-kind q
owns-kind q (comment t) = container-kind q
owns-kind q (namespace p u) = element-kind q
owns-kind q (instruction t d) = container-kind q
