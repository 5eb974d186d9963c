-- What storing a text and interning a name ask.
use Rattle.std.specs.Prelude.{◌≡◌, true, List, ℕ, ◌≤◌, length, eqb}
use Rattle.words.specs.Lists.{count_of}
use Rattle.texts.specs.Pool.{slots_for}
use Rattle.texts.specs.Rule.{FreeTexts}
use Rattle.names.specs.Table.{Name}
use Rattle.model.specs.Doc.{Doc}
use Rattle.model.specs.Calls.{text_fits, two_fit, name_fits_in}
use Rattle.layout.specs.declared.Document.{Document}
use Rattle.layout.specs.Layout.{memory_ok}
use Rattle.memory.specs.Decode.{decode}

-- of rules 1 and 8: counts within their limits, lengths that add up, and a stack of released slots, each once and with an empty text
pub record TextsReady (D : Doc) : Type 0 where
  pub counts : D.counts_fit ≡ true
  pub lengths : D.lengths_fit ≡ true
  pub free : FreeTexts D.pool
  pub once : (s : ℕ) → count_of (eqb s) D.pool.free ≤ 1

-- test 4, and room for the text
pub record Storable (d : Document) (mem text : List ℕ) : Type 0 where
  pub memory : memory_ok d (length mem) ≡ true
  pub ready : TextsReady (decode d mem)
  pub room : text_fits (decode d mem) (slots_for text) 0 (length text) ≡ true

-- and room for two
pub record TwoStorable (d : Document) (mem first second : List ℕ) : Type 0 where
  pub memory : memory_ok d (length mem) ≡ true
  pub ready : TextsReady (decode d mem)
  pub room : two_fit (decode d mem) first second ≡ true

-- of rules 1 and 8 for names: counts within their limits, and lengths that add up
pub record NamesReady (D : Doc) : Type 0 where
  pub counts : D.counts_fit ≡ true
  pub lengths : D.lengths_fit ≡ true

-- test 4, and the name or room for it
pub record Internable (d : Document) (mem : List ℕ) (n : Name) : Type 0 where
  pub memory : memory_ok d (length mem) ≡ true
  pub ready : NamesReady (decode d mem)
  pub room : name_fits_in (decode d mem) n ≡ true
