-- Counting into marks: a word for each slot, 0 for none, 1 for one, 2 for more than one.
use Rattle.std.specs.Prelude.{◌≡◌, Bool, true, List, ◌++◌, ℕ, ◌+◌, ◌<◌, min, get_or, eqb}
use Rattle.words.specs.Lists.{count_of, joined, tabulate}

-- a mark with one more
abbrev pub raised : ℕ → ℕ
raised mark = min 2 (mark + 1)

-- the marks of the slots below made tell how often each stands in l
pub record Counted (made : ℕ) (l marks : List ℕ) : Type 0 where
  pub mark : (x : ℕ) → x < made → get_or marks x 0 ≡ min 2 (count_of (eqb x) l)

-- what a pass over the entries of l does to marks, whatever they counted before
pub record Adds (made : ℕ) (l before after : List ℕ) : Type 0 where
  pub adds : (k : List ℕ) → Counted made k before → Counted made (k ++ l) after

-- a pass answers a test, and where it passes has counted l
pub record Pass (made : ℕ) (test : Bool) (l before after : List ℕ) (r : Bool) : Type 0 where
  pub answer : r ≡ test
  pub counts : r ≡ true → Adds made l before after

-- the lists of the slots below n, joined
abbrev pub gathered : {A : Type 0} → (ℕ → List A) → ℕ → List A
gathered f n = joined f (tabulate (λ i. i) n)
