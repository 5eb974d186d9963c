-- 01, rule 2: "The free list holds every odd-generation slot once and no other."
use Rattle.std.specs.Prelude.{◌≡◌, ℕ, ◌%◌, ◌<◌, Bool, true, ◌&&◌, List, length, nat_eq, nat_lt, slice_index}
use Rattle.words.specs.Parts.{part}
use Rattle.words.specs.Lists.{count_of, all_below}

-- the generations of the slots made, and the free stack with its last entry on top, as lists
abbrev pub generations : ℕ → List ℕ → ℕ → List ℕ
generations n w made = part 0 made w

abbrev pub free_stack : ℕ → List ℕ → ℕ → List ℕ
free_stack n w free = part n free w

-- each entry is a slot, and a slot stands in the list as often as its generation is odd: once or never
pub record FreeRule (gens free : List ℕ) : Type 0 where
  pub inside : (i : ℕ) → i < length free → slice_index free i < length gens
  pub once : (s : ℕ) → s < length gens → count_of (nat_eq s) free ≡ slice_index gens s % 2

-- the same as a test
abbrev pub are_slots : ℕ → List ℕ → Bool
are_slots made free = all_below (λ i. nat_lt (slice_index free i) made) (length free)

unfoldable pub free_rule : List ℕ → List ℕ → Bool
free_rule gens free = are_slots (length gens) free && all_below (λ s. nat_eq (count_of (nat_eq s) free) (slice_index gens s % 2)) (length gens)

-- what counting the entries into marks leaves
pub record Counted (made : ℕ) (free marks : List ℕ) (r : Bool) : Type 0 where
  pub answer : r ≡ are_slots made free
  pub counts : r ≡ true → (s : ℕ) → s < made → slice_index marks s ≡ count_of (nat_eq s) free

-- each of the first n marks is the last bit of its slot's generation
unfoldable pub marks_match : ℕ → List ℕ → List ℕ → Bool
marks_match n gens marks = all_below (λ s. nat_eq (slice_index marks s) (slice_index gens s % 2)) n
