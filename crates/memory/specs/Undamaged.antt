-- Test 4 and the structure check were passed: what every plan, and every step behind it, may take for given.
use Rattle.std.specs.Prelude.{◌≡◌, true, List, ℕ, length}
use Rattle.model.specs.Rules.{Rules}
use Rattle.layout.specs.declared.Document.{Document}
use Rattle.layout.specs.Layout.{memory_ok}
use Rattle.memory.specs.Decode.{decode}

pub record Undamaged (d : Document) (mem : List ℕ) : Type 0 where
  pub memory : memory_ok d (length mem) ≡ true
  pub rules : Rules (decode d mem)
