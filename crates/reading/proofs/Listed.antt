-- The list of a node, and the handles of a block.
-- Assumes nothing.
use mathlib.Core.Path.{◌≡◌, refl, sym, ap, ◌∙◌}
use mathlib.Core.Bool.{true, false}
use mathlib.Core.List.{List, []}
use Prim.Native.Nat.{ℕ, ◌+◌, ◌≤◌, ◌<◌}
use lib.ListN.{length}
use borrow.Author.Tests.{le-leb, lt-leb}
use Rattle.blocks.specs.Arena.{Block, list_of}
use Rattle.model.specs.Kinds.{Which, children, attributes, namespaces}
use Rattle.model.specs.Doc.{shown_block}
use Rattle.model.specs.Calls.{listed, lists, step}
use Rattle.layout.specs.declared.Document.{Document}
use Rattle.layout.specs.Layout.{memory_ok}
use Rattle.memory.specs.Decode.{arena_used, arena_in, decode}
use Rattle.reading.specs.Answers.{entries_shown}
use Rattle.reading.specs.Contract.{list_call}

module _ (d : Document) (mem : List ℕ) (h : ℕ) where
  lists-step : (w : Which) → lists (decode d mem) w h ≡ (step (list_call w h) (decode d mem)).answer
  lists-step children = refl
  lists-step attributes = refl
  lists-step namespaces = refl

  pub list-shown : (w : Which) (b : Block) → b ≡ shown_block (decode d mem) w h → listed b (list_of (arena_in d w mem) b) ≡ (step (list_call w h) (decode d mem)).answer
  list-shown w b e = ap (λ (c : Block). listed c (list_of (arena_in d w mem) c)) e ∙ lists-step w

-- ---- the handles of a block

module _ (d : Document) (mem : List ℕ) (w : Which) (b : Block) where
  pub entries-none : memory_ok d (length mem) ≡ false → [] ≡ entries_shown d mem w b
  unfolding entries_shown
  entries-none f = sym (rw f)

  module _ (y : memory_ok d (length mem) ≡ true) where
    pub entries-outside : arena_used d w < b.start + b.len → [] ≡ entries_shown d mem w b
    unfolding entries_shown
    entries-outside h = sym (rw (y, lt-leb (b.start + b.len) (arena_used d w) h))

    pub entries-inside : b.start + b.len ≤ arena_used d w → (l : List ℕ) → l ≡ list_of (arena_in d w mem) b → l ≡ entries_shown d mem w b
    unfolding entries_shown
    entries-inside h l q = q ∙ sym (rw (y, le-leb (b.start + b.len) (arena_used d w) h))
