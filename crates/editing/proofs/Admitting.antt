-- What tests 4 and 5 found, once they are passed.
-- Assumes nothing.
use mathlib.Core.Path.{◌≡◌, sym, ap, ◌∙◌}
use mathlib.Core.Bool.{true}
use mathlib.Core.List.{List}
use Prim.Native.Nat.{ℕ}
use lib.ListN.{length, replicate, length-replicate}
use Rattle.model.specs.RulesTest.{rules_hold}
use Rattle.laws.proofs.RulesTest.{rules-of-test}
use Rattle.words.proofs.Tests.{and_left}
use Rattle.layout.specs.declared.Document.{Document}
use Rattle.layout.specs.Layout.{memory_ok, buffers_ok}
use Rattle.memory.specs.Decode.{pool_in, names_in, lengths_add, decode}
use Rattle.memory.specs.Undamaged.{Undamaged}
use Rattle.memory.proofs.Shaped.{shape}
use Rattle.editing.specs.Contract.{Ready}

module _ (d : Document) (mem s : List ℕ) (f : buffers_ok d (length mem) (length s) ≡ true) (s' : List ℕ) (h : s' ≡ replicate (length s) 0) where
  undamaged : rules_hold (decode d mem) ≡ true → Undamaged d mem
  unfolding buffers_ok
  undamaged g =
      let m : memory_ok d (length mem) ≡ true = and_left _ _ f in
      record { memory = m; rules = rules-of-test (decode d mem) (shape (pool_in d mem) (names_in d mem) (lengths_add d mem) d mem m) g }

  pub ready : rules_hold (decode d mem) ≡ true → Ready d mem s'
  ready g =
      let n : length s' ≡ length s = ap length h ∙ length-replicate (length s) 0 in
      record { undamaged = undamaged g; buffers = ap (buffers_ok d (length mem)) n ∙ f; zero = h ∙ ap (λ (k : ℕ). replicate k 0) (sym n) }
