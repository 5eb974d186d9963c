-- What Start promises, for all limits and memory. The editing calls' promise is `Edits` (`Rattle.editing.specs.Contract`), the reading calls' `reads`
-- (`Rattle.reading.specs.Contract`).
use Rattle.std.specs.Prelude.{◌≡◌, Bool, true, false, ◌&&◌, cond, List, ℕ, leb, length, take, drop, replicate}
use Rattle.model.specs.Doc.{limits_ok, fresh}
use Rattle.model.specs.Calls.{Answered, refused, done, is_refusal}
use Rattle.layout.specs.declared.Document.{Document}
use Rattle.layout.specs.declared.Limits as given
use Rattle.layout.specs.Layout.{limits_of, document_words}
use Rattle.memory.specs.Decode.{decode}

-- "Start, for `Document::empty`, tests 4 and lays the Root alone, all else zero."
unfoldable pub startable : given.Limits → ℕ → Bool
startable l mem = limits_ok (limits_of l) && leb (document_words (limits_of l)) mem

-- Start was given limits and memory, answered a, and left the record d and the memory mem'; a refusal makes no promise about d.
pub record Starts (l : given.Limits) (mem : List ℕ) (a : Answered) (d : Document) (mem' : List ℕ) : Type 0 where
  pub answer : a ≡ cond (startable l (length mem)) done (refused 4)
  pub laid : is_refusal a ≡ false → (decode d mem' ≡ fresh (limits_of l)) × (d.limits ≡ l)
  -- the Root's own words are zero too
  pub zeroed : is_refusal a ≡ false → take (document_words (limits_of l)) mem' ≡ replicate (document_words (limits_of l)) 0
  pub kept : is_refusal a ≡ true → mem' ≡ mem
  pub lent : length mem' ≡ length mem
  pub beyond : drop (document_words (limits_of l)) mem' ≡ drop (document_words (limits_of l)) mem
