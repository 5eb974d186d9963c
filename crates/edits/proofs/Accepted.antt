-- What the checks of an accepted call leave to its steps.
-- Assumes nothing.
use Rattle.std.specs.Prelude.{Option, None, Some}
use mathlib.Core.Path.{◌≡◌, refl, sym, ap, ◌∙◌}
use mathlib.Core.Bool.{Bool, true, false, not, cond, true≢false}
use mathlib.Core.List.{List}
use Prim.Native.Nat.{ℕ, zero, suc}
use native.Mathlib.Omega.{arith}
use Rattle.model.specs.Kinds.{Kind, root, element, attribute, text, comment, namespace, instruction, children, map_kind, is_container, is_element, owns, text_of}
use Rattle.model.specs.Doc.{Doc, is_none, resolves, kind_at, node_at, view_at, pair_at, bytes_at}
use Rattle.model.specs.Arguments.{first}
use Rattle.model.specs.Checks.{View, container, an_element, a_child, a_text}
use Rattle.model.specs.Calls.{Call, Answered, Out, is_refusal, guarded, full_unless, step}
use Rattle.laws.proofs.Guards.{first-zero, refuse-zero, not-false-true}
use Rattle.layout.specs.declared.Document.{Document}
use Rattle.memory.specs.Decode.{decode}
use Rattle.memory.specs.Step.{Step}
use Rattle.memory.specs.Performed.{Performed}
use Rattle.edits.proofs.Composed.{step-as}

-- ---- the guard

pub guard_passed : (n : ℕ) (D : Doc) (o : Out) → is_refusal (guarded n D o).answer ≡ false → n ≡ 0
unfolding guarded
guard_passed zero D o e = refl
guard_passed (suc n) D o e = absurd (true≢false e)

pub guard-open : (n : ℕ) (D : Doc) (o : Out) → is_refusal (guarded n D o).answer ≡ false → guarded n D o ≡ o
unfolding guarded
guard-open zero D o e = refl
guard-open (suc n) D o e = absurd (true≢false e)

pub room-left : (fits : Bool) → full_unless fits ≡ 0 → fits ≡ true
room-left fits e = not-false-true fits (refuse-zero (not fits) 13 e)

-- a check, then Full
pub checked-room : (n : ℕ) (fits : Bool) (D : Doc) (o : Out) → is_refusal (guarded (first n (full_unless fits)) D o).answer ≡ false → (n ≡ 0) × (fits ≡ true)
checked-room n fits D o e =
    let z = first-zero n (full_unless fits) (guard_passed (first n (full_unless fits)) D o e) in
    (z.0, room-left fits z.1)

-- ---- the node that a check looked at

module _ (D : Doc) (h : ℕ) where
  pub viewed : (check : View → ℕ) → (check None ≡ 0 → ⊥) → check (view_at D h) ≡ 0 → (resolves D h ≡ true) × (check (Some (node_at D h)) ≡ 0)
  viewed check stale e = go (resolves D h) refl
    where
      seen : (r : Bool) → resolves D h ≡ r → check (cond r (Some (node_at D h)) None) ≡ 0
      seen r q = ap (λ (x : Bool). check (cond x (Some (node_at D h)) None)) (sym q) ∙ e

      go : (r : Bool) → resolves D h ≡ r → (resolves D h ≡ true) × (check (Some (node_at D h)) ≡ 0)
      go true q = (q, seen true q)
      go false q = absurd (stale (seen false q))

  container-kind : (k : Kind ℕ (Option ℕ)) → is_container (map_kind (pair_at D) (bytes_at D) k) ≡ is_container k
  container-kind root = refl
  container-kind (element n) = refl
  container-kind (attribute n v) = refl
  container-kind (text t) = refl
  container-kind (comment t) = refl
  container-kind (namespace p u) = refl
  container-kind (instruction t c) = refl

  element-kind : (k : Kind ℕ (Option ℕ)) → is_element (map_kind (pair_at D) (bytes_at D) k) ≡ is_element k
  element-kind root = refl
  element-kind (element n) = refl
  element-kind (attribute n v) = refl
  element-kind (text t) = refl
  element-kind (comment t) = refl
  element-kind (namespace p u) = refl
  element-kind (instruction t c) = refl

  text-kind : (k : Kind ℕ (Option ℕ)) → is_none (text_of (map_kind (pair_at D) (bytes_at D) k)) ≡ is_none (text_of k)
  text-kind root = refl
  text-kind (element n) = refl
  text-kind (attribute n v) = refl
  text-kind (text t) = refl
  text-kind (comment t) = refl
  text-kind (namespace p u) = refl
  text-kind (instruction t c) = refl

  pub container-there : container (view_at D h) ≡ 0 → (resolves D h ≡ true) × (owns children (kind_at D h) ≡ true)
  container-there e =
      let v = viewed container (λ z. omega arith) e in
      let b = is_container (node_at D h) in
      (v.0, sym (container-kind (kind_at D h)) ∙ not-false-true b (refuse-zero (not b) 7 v.1))

  pub element-there : an_element (view_at D h) ≡ 0 → (resolves D h ≡ true) × (is_element (kind_at D h) ≡ true)
  element-there e =
      let v = viewed an_element (λ z. omega arith) e in
      let b = is_element (node_at D h) in
      (v.0, sym (element-kind (kind_at D h)) ∙ not-false-true b (refuse-zero (not b) 6 v.1))

  pub text-there : a_text (view_at D h) ≡ 0 → (resolves D h ≡ true) × (is_none (text_of (kind_at D h)) ≡ false)
  text-there e =
      let v = viewed a_text (λ z. omega arith) e in
      (v.0, sym (text-kind (kind_at D h)) ∙ refuse-zero (is_none (text_of (node_at D h))) 9 v.1)

  pub child-there : a_child (view_at D h) ≡ 0 → resolves D h ≡ true
  child-there e = (viewed a_child (λ z. omega arith) e).0

-- ---- a call whose steps made its document

pub performed : (c : Call) (d : Document) (mem : List ℕ) (o : Out) → step c (decode d mem) ≡ o → (a : Answered) → a ≡ o.answer
    → (r : Document) (mem' : List ℕ) → Step d mem r mem' o.doc → Performed c d mem a r mem'
performed c d mem o e a ea r mem' s =
    record {
      answer = ea ∙ sym (ap (λ (x : Out). x.answer) e);
      change = step-as d mem r mem' o.doc (step c (decode d mem)).doc s (sym (ap (λ (x : Out). x.doc) e));
    }
