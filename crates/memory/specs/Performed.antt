-- A call behind its plan: no test can refuse it any more.
use Rattle.std.specs.Prelude.{◌≡◌, false, List, ℕ}
use Rattle.model.specs.Calls.{Call, Answered, is_refusal, step}
use Rattle.layout.specs.declared.Document.{Document}
use Rattle.memory.specs.Decode.{decode}
use Rattle.memory.specs.Undamaged.{Undamaged}
use Rattle.memory.specs.Step.{Step}

-- test 4, the structure check and every refusal of the call's own, Full the last, were passed
pub record Admitted (c : Call) (d : Document) (mem : List ℕ) : Type 0 where
  pub undamaged : Undamaged d mem
  pub accepted : is_refusal (step c (decode d mem)).answer ≡ false

-- the call's answer, and its document
pub record Performed (c : Call) (d : Document) (mem : List ℕ) (a : Answered) (r : Document) (mem' : List ℕ) : Type 0 where
  pub answer : a ≡ (step c (decode d mem)).answer
  pub change : Step d mem r mem' (step c (decode d mem)).doc
