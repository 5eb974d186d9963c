-- What the writing steps cite, over plain values.
-- Assumes nothing.
use Rattle.records.specs.declared.NodeId.{NodeId}
use Rattle.std.specs.Prelude.{Option}
use mathlib.Core.Path.{◌≡◌, ap, ◌∙◌}
use mathlib.Core.List.{List}
use Prim.Native.Nat.{ℕ}
use Rattle.records.specs.Records.{span_of, record_of}
use Rattle.records.specs.declared.Node.{Node}
use Rattle.records.specs.declared.Range.{Range}
use Rattle.records.specs.declared.Span.{Span}
use Rattle.records.specs.declared.NodeRecord.{NodeRecord}
use Rattle.layout.specs.declared.Document.{Document}
use Rattle.layout.specs.declared.Arena.{Arena}
use Rattle.layout.specs.Layout.{which_of}
use Rattle.memory.specs.Writing.{put_words, words_at, with_range, put_node, put_range, put_parent}
use Rattle.records.specs.Ranges.{with_parent}

module _ (d : Document) (mem : List ℕ) (s : ℕ) where
  pub node-stored : (m : Node) (r : NodeRecord) (mem' : List ℕ) → r ≡ record_of m → mem' ≡ put_words d mem s r → mem' ≡ put_node d mem s m
  unfolding put_node
  node-stored m r mem' e q = q ∙ ap (put_words d mem s) e

  pub range-stored : (a : Arena) (c : Range) (w r : NodeRecord) (t : Span) (mem' : List ℕ) → w ≡ words_at d mem s → t ≡ span_of c
      → r ≡ with_range (which_of a) w t → mem' ≡ put_words d mem s r → mem' ≡ put_range d mem s (which_of a) c
  unfolding put_range
  range-stored a c w r t mem' ew et er q = q ∙ ap (put_words d mem s) (er ∙ rw (ew, et))

  pub parent-stored : (p : Option NodeId) (w r : NodeRecord) (mem' : List ℕ) → w ≡ words_at d mem s → r ≡ with_parent w p
      → mem' ≡ put_words d mem s r → mem' ≡ put_parent d mem s p
  unfolding put_parent
  parent-stored p w r mem' ew er q = q ∙ ap (put_words d mem s) (er ∙ ap (λ (x : NodeRecord). with_parent x p) ew)
