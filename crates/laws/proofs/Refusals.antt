-- A call that is refused changes nothing.
-- Assumes nothing.
use Rattle.std.specs.Prelude.{Option, None, Some}
use mathlib.Core.Path.{◌≡◌, refl}
use mathlib.Core.Bool.{Bool, true, false, false≢true}
use mathlib.Core.List.{List}
use Prim.Native.Nat.{ℕ, zero, suc}
use Rattle.names.specs.Table.{Name, name}
use Rattle.model.specs.Doc.{Doc}
use Rattle.model.specs.Calls.{is_refusal, Out, guarded, step, set_attribute_found, declare_namespace_found, remove_attribute_found, find_attribute, find_namespace, Call, append-element, append-text, append-comment, append-pi, set-text, set-attribute, remove-attribute, declare-namespace, remove, detach, reparent, insert-at, document-order, compact, root-of, kind-of, parent-of, children-of, root-element, is-element, name_of, attribute-nodes, namespace-nodes, nodes, order-key}

guarded-keeps : (n : ℕ) (d : Doc) (o : Out) → (is_refusal o.answer ≡ true → o.doc ≡ d) → is_refusal (guarded n d o).answer ≡ true → (guarded n d o).doc ≡ d
unfolding guarded
guarded-keeps zero d o h e = h e
guarded-keeps (suc n) d o h e = refl

-- an accepted answer is no refusal
accepted : {P : Type 0} → ◌≡◌ {A = Bool} false true → P
accepted e = absurd (false≢true e)

set-attribute-keeps : (found : Option ℕ) (d : Doc) (e : ℕ) (n : Name) (value : List ℕ)
    → is_refusal (set_attribute_found found d e n value).answer ≡ true → (set_attribute_found found d e n value).doc ≡ d
set-attribute-keeps None d e n value f = guarded-keeps _ d _ accepted f
set-attribute-keeps (Some a) d e n value f = guarded-keeps _ d _ accepted f

declare-namespace-keeps : (found : Option ℕ) (d : Doc) (e : ℕ) (prefix uri : List ℕ)
    → is_refusal (declare_namespace_found found d e prefix uri).answer ≡ true → (declare_namespace_found found d e prefix uri).doc ≡ d
declare-namespace-keeps None d e prefix uri f = guarded-keeps _ d _ accepted f
declare-namespace-keeps (Some a) d e prefix uri f = guarded-keeps _ d _ accepted f

remove-attribute-keeps : (found : Option ℕ) (d : Doc) → is_refusal (remove_attribute_found found d).answer ≡ true → (remove_attribute_found found d).doc ≡ d
remove-attribute-keeps None d f = refl
remove-attribute-keeps (Some a) d f = accepted f

pub refusal-keeps : (c : Call) (d : Doc) → is_refusal (step c d).answer ≡ true → (step c d).doc ≡ d
refusal-keeps (append-element p ns local) d e = guarded-keeps _ d _ accepted e
refusal-keeps (append-text p t) d e = guarded-keeps _ d _ accepted e
refusal-keeps (append-comment p t) d e = guarded-keeps _ d _ accepted e
refusal-keeps (append-pi p target content) d e = guarded-keeps _ d _ accepted e
refusal-keeps (set-text h t) d e = guarded-keeps _ d _ accepted e
refusal-keeps (set-attribute el ns local value) d e = guarded-keeps _ d _ (set-attribute-keeps (find_attribute d el (name ns local)) d el (name ns local) value) e
refusal-keeps (remove-attribute el ns local) d e = guarded-keeps _ d _ (remove-attribute-keeps (find_attribute d el (name ns local)) d) e
refusal-keeps (declare-namespace el prefix uri) d e = guarded-keeps _ d _ (declare-namespace-keeps (find_namespace d el prefix) d el prefix uri) e
refusal-keeps (remove h) d e = guarded-keeps _ d _ accepted e
refusal-keeps (detach h) d e = guarded-keeps _ d _ accepted e
refusal-keeps (reparent c p) d e = guarded-keeps _ d _ accepted e
refusal-keeps (insert-at p i c) d e = guarded-keeps _ d _ accepted e
refusal-keeps document-order d e = accepted e
refusal-keeps compact d e = accepted e
refusal-keeps root-of d e = refl
refusal-keeps (kind-of h) d e = refl
refusal-keeps (parent-of h) d e = refl
refusal-keeps (children-of h) d e = refl
refusal-keeps root-element d e = refl
refusal-keeps (is-element h) d e = refl
refusal-keeps (name_of n) d e = refl
refusal-keeps (attribute-nodes h) d e = refl
refusal-keeps (namespace-nodes h) d e = refl
refusal-keeps nodes d e = refl
refusal-keeps (order-key h) d e = refl
