-- Rule 3: the parent that is read of a slot is tested as the document's.
-- Assumes nothing.
use Rattle.std.specs.Prelude.{Option, None, Some}
use mathlib.Core.Path.{◌≡◌, sym, ap, ◌∙◌}
use mathlib.Core.Bool.{Bool, true, false, not, ◌&&◌}
use mathlib.Core.List.{List, []}
use Prim.Native.Nat.{ℕ}
use lib.Dec.{eqb, leb}
use borrow.Author.Tests.{eq-eqb, ne_eqb}
use Rattle.words.specs.Lists.{all_below}
use Rattle.records.specs.Handles.{word_of}
use Rattle.records.specs.declared.NodeId.{NodeId}
use Rattle.model.specs.Doc.{Doc, live_slot, resolves, kind_in, kind_at, parent_in}
use Rattle.model.specs.RulesTest.{all_live, parent_holds, parents_hold}
use Rattle.layout.specs.declared.Document.{Document}
use Rattle.memory.specs.Decode.{handle_of, slots_made}
use Rattle.memory.proofs.Columns.{length-gens}
use Rattle.entries.specs.Nodes.{no_texts, decode_nodes, kind_number}
use Rattle.structure.specs.Tests.{child_number, owns_number, root_test, parent_test}
use Rattle.structure.specs.Turns.{owner_holds}
use Rattle.structure.proofs.KindNumbers.{child-kind, owns-kind}

-- ---- kinds by their numbers

pub child-not : (kind : ℕ) → kind ≡ 2 → false ≡ child_number kind
unfolding child_number
child-not kind e = sym (rw (eq-eqb kind 2 e))

pub child-rest : (kind : ℕ) → (kind ≡ 2 → ⊥) → not (eqb kind 5) ≡ child_number kind
unfolding child_number
child-rest kind n = sym (rw (ne_eqb kind 2 n))

module _ (owner owned : ℕ) (t : Bool) (e : t ≡ child_number owned) where
  pub owns-children : t ≡ true → leb owner 1 ≡ owns_number owner owned
  unfolding owns_number
  owns-children y = sym (rw (sym e ∙ y))

  pub owns-lists : t ≡ false → eqb owner 1 ≡ owns_number owner owned
  unfolding owns_number
  owns-lists n = sym (rw (sym e ∙ n))

-- ---- the parent of a node

module _ (D : Doc) (i kind : ℕ) (k : kind ≡ kind_number (kind_in D i)) (p : Option NodeId) (f : handle_of p ≡ parent_in D i) where
  pub parent-none : p ≡ None → (r : Bool) → r ≡ child_number kind → r ≡ parent_holds D i (parent_in D i)
  parent-none q r e =
      e
      ∙ ap child_number k
      ∙ child-kind (kind_in D i)
      ∙ ap (parent_holds D i) (sym (ap handle_of q) ∙ f)

  pub parent-some : (id : NodeId) → p ≡ Some id → (handle : ℕ) (r : Bool) → handle ≡ word_of id
      → r ≡ (resolves D handle && owns_number (kind_number (kind_at D handle)) kind) → r ≡ parent_holds D i (parent_in D i)
  parent-some id q handle r w e =
      e
      ∙ ap (λ (t : Bool). resolves D handle && t) (ap (owns_number (kind_number (kind_at D handle))) k ∙ owns-kind (kind_at D handle) (kind_in D i))
      ∙ ap (λ (h : ℕ). parent_holds D i (Some h)) w
      ∙ ap (parent_holds D i) (sym (ap handle_of q) ∙ f)

-- ---- a slot

module _ (D : Doc) (i : ℕ) (live : live_slot D i ≡ true) where
  parent-tested : parent_holds D i (parent_in D i) ≡ parent_test D i
  unfolding parent_test
  parent-tested = sym (rw live)

  module _ (t : Bool) (e : t ≡ root_test D i) where
    pub owner-held : t ≡ true → (r : Bool) → r ≡ parent_holds D i (parent_in D i) → r ≡ owner_holds D i
    unfolding owner_holds
    owner-held y r f = f ∙ parent-tested ∙ ap (λ (u : Bool). u && parent_test D i) (sym y ∙ e)

    pub owner-none : t ≡ false → false ≡ owner_holds D i
    unfolding owner_holds
    owner-none n = ap (λ (u : Bool). u && parent_test D i) (sym n ∙ e)

pub all-parents : (d : Document) (mem : List ℕ) → all_below (parent_test (decode_nodes d mem)) (slots_made d) ≡ parents_hold (decode_nodes d mem)
unfolding parent_test parents_hold all_live
all-parents d mem = ap (all_below (parent_test (decode_nodes d mem))) (sym (length-gens no_texts [] true d mem))
