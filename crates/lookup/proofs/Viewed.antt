-- What a handle shows to the checks, by the node that it resolves to.
-- Assumes nothing.
use Rattle.std.specs.Prelude.{Option, None, Some, MatchOption, IsSomeAnd, Result, MatchResult}
use Rattle.std.specs.Option.{ok_or}
use mathlib.Core.Path.{◌≡◌, refl, sym, ap, ◌∙◌}
use mathlib.Core.Bool.{Bool, true, false, not, cond}
use mathlib.Core.List.{List}
use Prim.Native.Nat.{ℕ, ◌<◌}
use Rattle.records.specs.Handles.{word_of}
use Rattle.records.specs.declared.NodeId.{NodeId}
use Rattle.records.specs.declared.Node.{Node}
use Rattle.records.specs.declared.NodeData.{NodeData}
use Rattle.records.proofs.Handles.{handle_index-word_of}
use Rattle.names.specs.Table.{Name}
use Rattle.model.specs.Kinds.{Kind, root, element, attribute, text, comment, namespace, instruction, map_kind, is_container, is_element, is_root, child_kind, text_of}
use Rattle.model.specs.Doc.{Doc, resolves, kind_in, kind_at, pair_at, bytes_at, node_at, view_at, is_none}
use Rattle.model.specs.Arguments.{refuse_if}
use Rattle.model.specs.declared.Refusal.{Refusal}
use Rattle.model.specs.declared.Refusal.TheVariants.{Stale}
use Rattle.model.specs.Checks.{container, an_element, a_text, check_remove}
use Rattle.layout.specs.declared.Document.{Document}
use Rattle.memory.specs.Decode.{kind_of, resolved_in, pool_in, names_in, lengths_add, decode}
use Rattle.memory.proofs.Columns.{resolved-found, resolved-none, kind-found}

-- ---- the checks look at the kind alone

module _ (pair : ℕ → Name) (bytes : Option ℕ → List ℕ) where
  pub container_seen : (k : Kind ℕ (Option ℕ)) → container (Some (map_kind pair bytes k)) ≡ refuse_if (not (is_container k)) 8
  container_seen root = refl
  container_seen (element n) = refl
  container_seen (attribute n v) = refl
  container_seen (text t) = refl
  container_seen (comment t) = refl
  container_seen (namespace p u) = refl
  container_seen (instruction t d) = refl

  pub element_seen : (k : Kind ℕ (Option ℕ)) → is_element (map_kind pair bytes k) ≡ is_element k
  element_seen root = refl
  element_seen (element n) = refl
  element_seen (attribute n v) = refl
  element_seen (text t) = refl
  element_seen (comment t) = refl
  element_seen (namespace p u) = refl
  element_seen (instruction t d) = refl

  pub root_seen : (k : Kind ℕ (Option ℕ)) → is_root (map_kind pair bytes k) ≡ is_root k
  root_seen root = refl
  root_seen (element n) = refl
  root_seen (attribute n v) = refl
  root_seen (text t) = refl
  root_seen (comment t) = refl
  root_seen (namespace p u) = refl
  root_seen (instruction t d) = refl

  pub child_seen : (k : Kind ℕ (Option ℕ)) → child_kind (map_kind pair bytes k) ≡ child_kind k
  child_seen root = refl
  child_seen (element n) = refl
  child_seen (attribute n v) = refl
  child_seen (text t) = refl
  child_seen (comment t) = refl
  child_seen (namespace p u) = refl
  child_seen (instruction t d) = refl

  pub text_seen : (k : Kind ℕ (Option ℕ)) → a_text (Some (map_kind pair bytes k)) ≡ refuse_if (is_none (text_of k)) 10
  text_seen root = refl
  text_seen (element n) = refl
  text_seen (attribute n v) = refl
  text_seen (text t) = refl
  text_seen (comment t) = refl
  text_seen (namespace p u) = refl
  text_seen (instruction t d) = refl

  pub an_element_seen : (k : Kind ℕ (Option ℕ)) → an_element (Some (map_kind pair bytes k)) ≡ refuse_if (not (is_element k)) 7
  an_element_seen k = ap (λ (t : Bool). refuse_if (not t) 7) (element_seen k)

  pub remove_seen : (k : Kind ℕ (Option ℕ)) → check_remove (Some (map_kind pair bytes k)) ≡ refuse_if (is_root k) 11
  remove_seen k = ap (λ (t : Bool). refuse_if t 11) (root_seen k)

-- ---- a handle

module _ (d : Document) (mem : List ℕ) (h : NodeId) (hi : h.index < 4294967296) (hg : h.generation < 4294967296) where
  abbrev D : Doc
  D = decode d mem

  module _ (m : Node) (e : resolved_in d mem h ≡ Some m) where
    pub resolves-found : resolves (decode d mem) (word_of h) ≡ true
    resolves-found = (resolved-found (pool_in d mem) (names_in d mem) (lengths_add d mem) d mem h hi hg m e).resolves-handle

    pub kind_at-found : kind_at (decode d mem) (word_of h) ≡ kind_of m.«data»
    kind_at-found =
        let r = resolved-found (pool_in d mem) (names_in d mem) (lengths_add d mem) d mem h hi hg m e in
        ap (kind_in D) (handle_index-word_of h hi)
        ∙ kind-found (pool_in d mem) (names_in d mem) (lengths_add d mem) d mem h.index r.slot-made m r.loaded

    pub view-found : view_at (decode d mem) (word_of h) ≡ Some (map_kind (pair_at (decode d mem)) (bytes_at (decode d mem)) (kind_of m.«data»))
    view-found =
        ap (λ (t : Bool). cond t (Some (node_at D (word_of h))) None) resolves-found
        ∙ ap (λ (k : Kind ℕ (Option ℕ)). Some (map_kind (pair_at D) (bytes_at D) k)) kind_at-found

  module _ (e : resolved_in d mem h ≡ None) where
    pub resolves-stale : resolves (decode d mem) (word_of h) ≡ false
    resolves-stale = resolved-none (pool_in d mem) (names_in d mem) (lengths_add d mem) d mem h hi hg e

    pub view-stale : view_at (decode d mem) (word_of h) ≡ None
    view-stale = ap (λ (t : Bool). cond t (Some (node_at D (word_of h))) None) resolves-stale

  -- what is made of the node, or of none
  pub data-shown : (o : Option Node) (p : Option NodeData) (r : Result NodeData Refusal) {Q : Node → NodeData → Type 0} → o ≡ resolved_in d mem h → MatchOption o (p ≡ None) (λ m. IsSomeAnd p (Q m)) → ((m : Node) (v : NodeData) → Q m v → v ≡ m.«data»)
      → r ≡ ok_or p Stale
      → MatchResult r (λ v. view_at (decode d mem) (word_of h) ≡ Some (map_kind (pair_at (decode d mem)) (bytes_at (decode d mem)) (kind_of v))) (λ why. (view_at (decode d mem) (word_of h) ≡ None) × (why ≡ Stale))
  data-shown None p r e c q k = rw (k, c) (view-stale (sym e), refl)
  data-shown (Some m) None r e c q k = absurd c
  data-shown (Some m) (Some v) r e c q k =
      rw k (view-found m (sym e) ∙ ap (λ (x : NodeData). Some (map_kind (pair_at D) (bytes_at D) (kind_of x))) (sym (q m v c)))
