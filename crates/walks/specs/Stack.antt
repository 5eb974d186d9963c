-- A stack of words: what is on it, and what pushing and popping make of it.
use Rattle.std.specs.Prelude.{List, ◌++◌, ℕ, length, take, drop, reverse}

-- the words on it, the top first, and the free words behind the top
pub record Stacked : Type 0 where
  pub entries : List ℕ
  pub free : List ℕ

-- in words of which so many are on the stack, the lowest first
abbrev pub stacked : ℕ → List ℕ → Stacked
stacked height words = record { entries = reverse (take height words); free = drop height words }

-- with l on top, its first word as the top
abbrev pub pushed : List ℕ → Stacked → Stacked
pushed l s = record { entries = l ++ s.entries; free = drop (length l) s.free }

-- without the top, if there is one; its word is free
abbrev pub popped : Stacked → Stacked
popped s = record { entries = drop 1 s.entries; free = take 1 s.entries ++ s.free }
