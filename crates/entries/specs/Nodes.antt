-- What the checks read: the document without its texts and names, and single words of a slot's record.
use Rattle.std.specs.Prelude.{Bool, true, List, [], ℕ}
use Rattle.slots.specs.WordsRule.{words_rule}
use Rattle.texts.specs.Pool.{Pool}
use Rattle.model.specs.Doc.{Doc}
use Rattle.layout.specs.declared.Document.{Document}
use Rattle.memory.specs.Decode.{decode_with, slots_part, slots_made}
unfoldable pub use Rattle.memory.specs.Words.{record_word}
pub use Rattle.memory.specs.Words.{block_at, kind_number, name_number, first_slot, second_slot}

-- rules 3 to 7 read no text and no name: any pool and any table serve
abbrev pub no_texts : Pool
no_texts = record { texts = []; free = [] }

abbrev pub decode_nodes : Document → List ℕ → Doc
decode_nodes d mem = decode_with no_texts [] true d mem

-- rule 1 of the words of the slots made: where it holds, a slot is live exactly where its generation is even
abbrev pub words_hold : Document → List ℕ → Bool
words_hold d mem = words_rule d.limits.nodes (slots_part d mem) (slots_made d)
