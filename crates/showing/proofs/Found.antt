-- What a handle shows in the decoded document, by the node that it resolves to.
-- Assumes nothing.
use Rattle.std.specs.Prelude.{Option, None, Some}
use mathlib.Core.Path.{◌≡◌, refl, sym, ap, ◌∙◌}
use mathlib.Core.Bool.{Bool, true, false, true≢false}
use mathlib.Core.List.{List}
use Prim.Native.Nat.{ℕ, ◌<◌}
use lib.Dec.{eqb}
use Rattle.words.proofs.Tests.{and_left}
use Rattle.records.specs.Handles.{word_of, handle_index, handle_generation}
use Rattle.records.specs.declared.NodeId.{NodeId}
use Rattle.records.specs.declared.Node.{Node}
use Rattle.records.proofs.Handles.{handle_index-word_of}
use Rattle.texts.specs.Pool.{Pool}
use Rattle.names.specs.Table.{Name}
use Rattle.model.specs.Kinds.{Which, is_element}
use Rattle.model.specs.Doc.{generation_at, live_slot, resolves, kind_in, kind_at, parent_in, parent_at, range_in, shown_parent, shows_element}
use Rattle.layout.specs.declared.Document.{Document}
use Rattle.memory.specs.Decode.{kind_of, handle_of, range_of, slots_made, resolved_in, pool_in, names_in, lengths_add, decode_with, decode}
use Rattle.memory.proofs.Columns.{resolved-found, resolved-none, kind-found, parent-found, range-found}

-- a handle that resolves
pub record Shown (p : Pool) (names : List (Option Name)) (lengths : Bool) (d : Document) (mem : List ℕ) (h : NodeId) (m : Node) : Type 0 where
  pub slot-made : h.index < slots_made d
  pub resolving : resolves (decode_with p names lengths d mem) (word_of h) ≡ true
  pub kind : kind_at (decode_with p names lengths d mem) (word_of h) ≡ kind_of m.«data»
  pub parent : parent_at (decode_with p names lengths d mem) (word_of h) ≡ handle_of m.parent
  pub range : (a : Which) → range_in (decode_with p names lengths d mem) a (handle_index (word_of h)) ≡ range_of a m

module _ (d : Document) (mem : List ℕ) (h : NodeId) (hi : h.index < 4294967296) (hg : h.generation < 4294967296) where
  module _ (m : Node) (e : resolved_in d mem h ≡ Some m) where
    pub shown : (p : Pool) (names : List (Option Name)) (lengths : Bool) → Shown p names lengths d mem h m
    shown p names lengths =
        let D = decode_with p names lengths d mem in
        let r = resolved-found p names lengths d mem h hi hg m e in
        let i = handle_index-word_of h hi in
        record {
          slot-made = r.slot-made;
          resolving = r.resolves-handle;
          kind = ap (kind_in D) i ∙ kind-found p names lengths d mem h.index r.slot-made m r.loaded;
          parent = ap (parent_in D) i ∙ parent-found p names lengths d mem h.index r.slot-made m r.loaded;
          range = λ a. ap (range_in D a) i ∙ range-found p names lengths d mem h.index r.slot-made m r.loaded a;
        }

-- ---- what the test of a handle tells

module _ (d : Document) (mem : List ℕ) (h : NodeId) (hi : h.index < 4294967296) (hg : h.generation < 4294967296) (t : Bool) (e : t ≡ resolves (decode d mem) (word_of h)) where
  -- the slot of a handle that resolves is live
  pub live-shown : t ≡ true → live_slot (decode d mem) h.index ≡ true
  live-shown q =
      ap (live_slot (decode d mem)) (sym (handle_index-word_of h hi))
      ∙ and_left (live_slot (decode d mem) (handle_index (word_of h))) (eqb (generation_at (decode d mem) (handle_index (word_of h))) (handle_generation (word_of h))) (sym e ∙ q)

  -- and it has a node
  pub by-node : (P : Type 0) → t ≡ true → ((m : Node) → Shown (pool_in d mem) (names_in d mem) (lengths_add d mem) d mem h m → P) → P
  by-node P q f = go (resolved_in d mem h) refl
    where
      go : (x : Option Node) → resolved_in d mem h ≡ x → P
      go (Some m) r = f m (shown d mem h hi hg m r (pool_in d mem) (names_in d mem) (lengths_add d mem))
      go None r = absurd (true≢false (sym q ∙ e ∙ resolved-none (pool_in d mem) (names_in d mem) (lengths_add d mem) d mem h hi hg r))

  pub element-shown : t ≡ true → (u : Bool) → u ≡ is_element (kind_in (decode d mem) h.index) → u ≡ shows_element (decode d mem) (word_of h)
  element-shown q u k =
      k ∙ ap (λ (i : ℕ). is_element (kind_in (decode d mem) i)) (sym (handle_index-word_of h hi)) ∙ sym (rw (sym e ∙ q))

  pub element-stale : t ≡ false → false ≡ shows_element (decode d mem) (word_of h)
  element-stale f = sym (rw (sym e ∙ f))

  pub parent-shown : t ≡ true → (o : Option ℕ) → o ≡ parent_in (decode d mem) h.index → o ≡ shown_parent (decode d mem) (word_of h)
  parent-shown q o p = p ∙ ap (parent_in (decode d mem)) (sym (handle_index-word_of h hi)) ∙ sym (rw (sym e ∙ q))
