-- The record of a document as words: its 8 limits, its 10 counts, and whether its order is current.
use Rattle.std.specs.Prelude.{Bool, ◌&&◌, not, cond, List, [], ◌∷◌, ℕ, length, get_or, eqb, leb, Some, None, Option}
use Rattle.layout.specs.declared.Limits.{Limits}
use Rattle.layout.specs.declared.Counts.{Counts}
use Rattle.layout.specs.declared.Document.{Document}

unfoldable pub limits_in : List ℕ → Limits
limits_in w = record {
  nodes = get_or w 0 0;
  children = get_or w 1 0;
  attributes = get_or w 2 0;
  namespaces = get_or w 3 0;
  texts = get_or w 4 0;
  textbytes = get_or w 5 0;
  names = get_or w 6 0;
  namebytes = get_or w 7 0;
}

unfoldable pub counts_in : List ℕ → Counts
counts_in w = record {
  slots = get_or w 8 0;
  free = get_or w 9 0;
  children = get_or w 10 0;
  attributes = get_or w 11 0;
  namespaces = get_or w 12 0;
  texts = get_or w 13 0;
  freetexts = get_or w 14 0;
  textbytes = get_or w 15 0;
  names = get_or w 16 0;
  namebytes = get_or w 17 0;
}

unfoldable pub document_of : List ℕ → Document
document_of w = record { limits = limits_in w; counts = counts_in w; current = not (eqb (get_or w 18 0) 0) }

-- 1 for true, 0 for false
abbrev pub truth_word : Bool → ℕ
truth_word t = cond t 1 0

abbrev pub limit_words : Limits → List ℕ → List ℕ
limit_words l rest = l.nodes ∷ l.children ∷ l.attributes ∷ l.namespaces ∷ l.texts ∷ l.textbytes ∷ l.names ∷ l.namebytes ∷ rest

abbrev pub count_words : Counts → List ℕ → List ℕ
count_words c rest = c.slots ∷ c.free ∷ c.children ∷ c.attributes ∷ c.namespaces ∷ c.texts ∷ c.freetexts ∷ c.textbytes ∷ c.names ∷ c.namebytes ∷ rest

unfoldable pub words_of : Document → List ℕ
words_of d = limit_words d.limits (count_words d.counts (truth_word d.current ∷ []))

-- whether a record's words are all lent, and those that an answer asks for
unfoldable pub is_lent : List ℕ → ℕ → ℕ → Bool
is_lent w room asked = leb 19 (length w) && leb asked room

unfoldable pub lent_record : List ℕ → ℕ → ℕ → Option Document
lent_record w room asked = cond (is_lent w room asked) (Some (document_of w)) None
