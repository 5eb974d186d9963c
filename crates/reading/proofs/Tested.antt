-- What a reading call answers once test 4 has passed.
-- Assumes nothing.
use mathlib.Core.Path.{◌≡◌, sym}
use mathlib.Core.Bool.{true}
use mathlib.Core.List.{List}
use Prim.Native.Nat.{ℕ}
use lib.ListN.{length}
use Rattle.model.specs.Calls.{Answered, Call, step}
use Rattle.layout.specs.declared.Document.{Document}
use Rattle.layout.specs.Layout.{memory_ok}
use Rattle.memory.specs.declared.view.View.{View}
use Rattle.memory.specs.View.{decoded}
use Rattle.reading.specs.Contract.{reads}

module _ (v : View) (d : Document) (mem : List ℕ) where
  pub decoded-reads : (a : Document → List ℕ → Answered) (c : Call) → (memory_ok d (length mem) ≡ true) × (v.document ≡ d) × (v.words.now ≡ mem)
      → a v.document v.words.now ≡ (step c (decoded v)).answer → a d mem ≡ reads c d mem
  unfolding reads
  decoded-reads a c e q = rw (sym e.1, sym e.2, v.fits) q
