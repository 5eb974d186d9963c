-- What the exported calls of a walk promise (02, a), for all words, slices and numbers: what the call behind them promises. Too few words of the record
-- or of a slice are 4, and nothing is touched.
use Rattle.std.specs.Prelude.{◌≡◌, Bool, true, false, ◌&&◌, List, ℕ, length, leb}
use Rattle.descendants.specs.Contract.{starts_of, next_of, count_below, written_below}
use Rattle.encoding.specs.Records.{document_of, is_lent}
use Rattle.encoding.specs.Given.{status_of, given_to, count_words}
use Rattle.encoding.specs.Positions.{position_of, start_words, next_words, next_position}

-- `oxml_descendants_of` was lent a slice for a position.
pub record ExportedWalk (h : ℕ) (words mem at : List ℕ) (status : ℕ) (at' : List ℕ) : Type 0 where
  pub short : is_lent words (length at) 7 ≡ false → (status ≡ 4) × (at' ≡ at)
  pub starts : is_lent words (length at) 7 ≡ true
      → (status ≡ status_of (start_words (starts_of (document_of words) mem h))) × (at' ≡ given_to at (start_words (starts_of (document_of words) mem h)))

-- `oxml_walk_next` was lent a position and a slice for two words.
abbrev pub next_lent : List ℕ → List ℕ → List ℕ → Bool
next_lent words at out = is_lent words (length at) 7 && leb 2 (length out)

pub record ExportedNext (words mem at out : List ℕ) (status : ℕ) (at' out' : List ℕ) : Type 0 where
  pub short : next_lent words at out ≡ false → (status ≡ 4) × (at' ≡ at) × (out' ≡ out)
  pub returned : next_lent words at out ≡ true → status ≡ status_of (next_words (next_of (document_of words) mem (position_of at)))
  pub position : next_lent words at out ≡ true → at' ≡ given_to at (next_position (next_of (document_of words) mem (position_of at)))
  pub answer : next_lent words at out ≡ true → out' ≡ given_to out (next_words (next_of (document_of words) mem (position_of at)))

-- `oxml_list_below` was lent a list for the handles, and a slice for their count.
pub record ExportedBelow (h : ℕ) (words mem list out : List ℕ) (status : ℕ) (list' out' : List ℕ) : Type 0 where
  pub short : is_lent words (length out) 1 ≡ false → (status ≡ 4) × (list' ≡ list) × (out' ≡ out)
  pub returned : is_lent words (length out) 1 ≡ true → status ≡ status_of (count_words (count_below (document_of words) mem h list))
  pub listed : is_lent words (length out) 1 ≡ true → list' ≡ written_below (document_of words) mem h list
  pub answer : is_lent words (length out) 1 ≡ true → out' ≡ given_to out (count_words (count_below (document_of words) mem h list))
