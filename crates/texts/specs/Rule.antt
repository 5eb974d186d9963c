-- Structure rule 8, what it says of texts: "Every pool text slot belongs to one field of one live node, or is in the free text list once with length 0".
use Rattle.std.specs.Prelude.{◌≡◌, cond, [], ℕ, ◌+◌, ◌≤◌, ◌<◌, length, get_or, eqb, Option, None, Some}
use Rattle.words.specs.Lists.{count_of}
use Rattle.texts.specs.Pool.{Pool}

-- what the pool can say by itself: each entry of the free list is a slot that was made, and its text is empty
pub record FreeTexts (p : Pool) : Type 0 where
  pub inside : (s : ℕ) → 0 < count_of (eqb s) p.free → s < length p.texts
  pub empty : (s : ℕ) → 0 < count_of (eqb s) p.free → get_or p.texts s [] ≡ []

-- whether a text field holds slot s: 1 or 0
abbrev pub holds : Option ℕ → ℕ → ℕ
holds None s = 0
holds (Some x) s = cond (eqb s x) 1 0

-- what the layer that knows the nodes has to say, with the number of fields that hold each slot: "one field .. or .. the free text list once"
pub record Owned (p : Pool) (owners : ℕ → ℕ) : Type 0 where
  pub once : (s : ℕ) → s < length p.texts → owners s + count_of (eqb s) p.free ≡ 1
  pub made : (s : ℕ) → length p.texts ≤ s → owners s ≡ 0
