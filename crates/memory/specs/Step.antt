-- What a writing step promises. Every refusal was decided before, so that no step refuses.
use Rattle.std.specs.Prelude.{◌≡◌, List, ℕ, length, drop}
use Rattle.model.specs.Doc.{Doc}
use Rattle.layout.specs.declared.Document.{Document}
use Rattle.layout.specs.Layout.{limits_of, document_words}
use Rattle.memory.specs.Decode.{decode}

-- the record r and the buffer after are the document D; the limits and every word past document memory are as they were
pub record Step (d : Document) (mem : List ℕ) (r : Document) (mem' : List ℕ) (D : Doc) : Type 0 where
  pub document : decode r mem' ≡ D
  pub limits : r.limits ≡ d.limits
  pub size : length mem' ≡ length mem
  pub past : drop (document_words (limits_of d.limits)) mem' ≡ drop (document_words (limits_of d.limits)) mem
