-- The document of lent memory that is edited, and what an edit leaves of it.
use Rattle.std.specs.Prelude.{◌≡◌, List, ℕ}
use Rattle.model.specs.Doc.{Doc}
use Rattle.model.specs.Calls.{Call, Answered}
use Rattle.layout.specs.declared.Document.{Document}
use Rattle.memory.specs.declared.lent.Lent.{Lent}
use Rattle.memory.specs.Decode.{decode}
use Rattle.memory.specs.Step.{Step}
use Rattle.memory.specs.Performed.{Performed}

abbrev pub document_in : Lent → Doc
document_in l = decode l.document l.words.now

-- b is what was lent as a, with this record and these words
pub record Becomes (a b : Lent) (d : Document) (mem : List ℕ) : Type 0 where
  pub record_is : b.document ≡ d
  pub words_are : b.words.now ≡ mem
  pub reference : b.words.ghost_name ≡ a.words.ghost_name

-- b is what was lent as a, after a step to this document
pub record Stepped (a b : Lent) (D : Doc) : Type 0 where
  pub step : Step a.document a.words.now b.document b.words.now D
  pub reference : b.words.ghost_name ≡ a.words.ghost_name

-- b is what was lent as a, after the call, which answered x
pub record Performs (c : Call) (a b : Lent) (x : Answered) : Type 0 where
  pub performed : Performed c a.document a.words.now x b.document b.words.now
  pub reference : b.words.ghost_name ≡ a.words.ghost_name
