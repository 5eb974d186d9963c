-- The bytes of texts and names that the words show, also in damaged memory.
use Rattle.std.specs.Prelude.{List, [], ℕ, Option, None, Some}
use Rattle.texts.specs.Words.{text_shown}
use Rattle.names.specs.Words.{part_shown}
use Rattle.layout.specs.declared.Document.{Document}
use Rattle.memory.specs.Decode.{text_limits, text_counts, texts_part, name_limits, name_counts, names_part}

-- the bytes of a text field; "an empty text .. for a number outside its table or bytes outside their pool"
abbrev pub text_in : Document → List ℕ → Option ℕ → List ℕ
text_in d mem None = []
text_in d mem (Some s) = text_shown (text_limits d) (text_counts d) s (texts_part d mem)

-- part 0 of a name is its namespace, part 1 its local part
abbrev pub name_part : Document → List ℕ → ℕ → ℕ → List ℕ
name_part d mem n k = part_shown (name_limits d) (name_counts d) n k (names_part d mem)
