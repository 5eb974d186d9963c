-- What `kind` and `name` show: texts and names as the document has them are those of the words.
-- Assumes nothing.
use mathlib.Core.Path.{◌≡◌, refl, sym, ap, ◌∙◌}
use mathlib.Core.Bool.{Bool, true, false, cond}
use mathlib.Core.List.{List}
use Prim.Native.Nat.{ℕ, ◌<◌}
use Rattle.blocks.specs.Arena.{Block, block}
use Rattle.std.specs.Prelude.{Ok, Option, None, Some}
use Rattle.std.specs.Bool.{then_some}
use Rattle.records.specs.Handles.{word_of}
use Rattle.records.specs.declared.NodeId.{NodeId}
use Rattle.records.specs.declared.Node.{Node}
use Rattle.records.specs.declared.NodeData.{NodeData}
use Rattle.records.specs.declared.NodeData.TheVariants as given
use Rattle.words.specs.declared.NameId.{NameId}
use Rattle.names.specs.Words.{name_shown, name_there}
use Rattle.model.specs.Kinds.{Which, attributes, namespaces, is_element, map_kind}
use Rattle.model.specs.Doc.{bytes_at}
use Rattle.model.specs.Calls.{Answered, kind_is, name_is, step, kind-of, name_of}
use Rattle.layout.specs.declared.Document.{Document}
use Rattle.memory.specs.Decode.{kind_of, element_range, name_limits, name_counts, names_part, resolved_in, pool_in, names_in, lengths_add, decode}
use Rattle.memory.proofs.Columns.{resolved-none}
use Rattle.memory.proofs.Shown.{name-shown}
use Rattle.memory.proofs.PoolAndTable.{texts-shown}
use Rattle.reading.specs.Answers.{text_in, of_name}
use Rattle.showing.proofs.Found.{shown}

-- ---- kinds

element-only : (w : Which) (v : NodeData) → cond (is_element (kind_of v)) (element_range w v) (block 0 0) ≡ element_range w v
element-only w given.Root = refl
element-only w (given.Element n a s) = refl
element-only w (given.Attr n v) = refl
element-only w (given.Text v) = refl
element-only w (given.Comment v) = refl
element-only w (given.Namespace p u) = refl
element-only w (given.ProcessingInstruction t c) = refl

-- the kind with the ranges of an element, where the texts are read by f
abbrev kind_with : (Option ℕ → List ℕ) → NodeData → Block → Block → Answered
kind_with f v a n = kind_is (Some (map_kind (λ m. m) f (kind_of v))) a n

module _ (d : Document) (mem : List ℕ) (h : NodeId) (hi : h.index < 4294967296) (hg : h.generation < 4294967296) where
  pub kind-shown : (m : Node) → resolved_in d mem h ≡ Some m
      → kind_is (Some (map_kind (λ n. n) (text_in d mem) (kind_of m.«data»))) (element_range attributes m.«data») (element_range namespaces m.«data»)
      ≡ (step (kind-of (word_of h)) (decode d mem)).answer
  kind-shown m e =
      let s = shown d mem h hi hg m e (pool_in d mem) (names_in d mem) (lengths_add d mem) in
      let v = m.«data» in
      let f : text_in d mem ≡ bytes_at (decode d mem) = λ i t. sym (texts-shown d mem t) i in
      ap (λ (g : Option ℕ → List ℕ). kind_with g v (element_range attributes v) (element_range namespaces v)) f
      ∙ ap (λ (a : Block). kind_with (bytes_at (decode d mem)) v a (element_range namespaces v)) (sym (element-only attributes v))
      ∙ ap (λ (n : Block). kind_with (bytes_at (decode d mem)) v (cond (is_element (kind_of v)) (element_range attributes v) (block 0 0)) n) (sym (element-only namespaces v))
      ∙ sym (rw (s.resolving, s.kind, s.range attributes, s.range namespaces))

  pub kind-stale : resolved_in d mem h ≡ None → kind_is None (block 0 0) (block 0 0) ≡ (step (kind-of (word_of h)) (decode d mem)).answer
  kind-stale e = rw (resolved-none (pool_in d mem) (names_in d mem) (lengths_add d mem) d mem h hi hg e)

-- ---- names

pub name-told : (d : Document) (mem : List ℕ) (n : NameId) (t : Bool) → t ≡ name_there (name_limits d) (name_counts d) n.0 (names_part d mem)
    → of_name d mem (Ok (then_some t n)) ≡ (step (name_of n.0) (decode d mem)).answer
unfolding name_shown
name-told d mem n t e = go t e ∙ ap name_is (sym (name-shown d mem n.0))
  where
    go : (u : Bool) → u ≡ name_there (name_limits d) (name_counts d) n.0 (names_part d mem) → of_name d mem (Ok (then_some u n)) ≡ name_is (name_shown (name_limits d) (name_counts d) n.0 (names_part d mem))
    go true q = rw (← q) refl
    go false q = rw (← q) refl
