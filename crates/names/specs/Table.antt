-- The name table (01, "Characters and names"): (namespace, local) pairs, each once; "names are never freed".
use Rattle.std.specs.Prelude.{Bool, false, ◌&&◌, ◌||◌, cond, List, [], ◌∷◌, ◌++◌, ℕ, ◌+◌, length, get_or, ltb, leb, Option, None, Some}
use Rattle.words.specs.Lists.{index_of, joined}
use Rattle.words.specs.Pieces.{same_bytes}

-- an expanded name; "An empty namespace means none."
pub record Name : Type 0 where
  pub namespace : List ℕ
  pub local : List ℕ

abbrev pub name : List ℕ → List ℕ → Name
name n l = record { namespace = n; local = l }

abbrev pub same_name : Name → Name → Bool
same_name a b = same_bytes a.namespace b.namespace && same_bytes a.local b.local

-- the bytes of a name as they lie in the table: its namespace, then its local part
abbrev pub name_bytes : Name → List ℕ
name_bytes n = n.namespace ++ n.local

-- ---- the table has an entry for each number: its pair, or none where the bytes of a damaged table show no pair

-- whether an entry is the pair
abbrev pub shows : Name → Option Name → Bool
shows n None = false
shows n (Some m) = same_name n m

abbrev pub entry_bytes : Option Name → List ℕ
entry_bytes None = []
entry_bytes (Some n) = name_bytes n

-- "Equal (namespace, local) pairs share one `NameId`": the number of the first equal pair, or the count where there is none
abbrev pub number_of : List (Option Name) → Name → ℕ
number_of names n = index_of (shows n) names

-- `intern`: the table after; the number is number_of
unfoldable pub interned : List (Option Name) → Name → List (Option Name)
interned names n = cond (ltb (number_of names n) (length names)) names (names ++ (Some n ∷ []))

-- the pair of a number; none from the name count on
abbrev pub name_at : List (Option Name) → ℕ → Option Name
name_at names i = get_or names i None

-- what interning takes, asked before any write
unfoldable pub name_fits : ℕ → ℕ → List (Option Name) → Name → Bool
name_fits nameLimit byteLimit names n =
    ltb (number_of names n) (length names)
    || (ltb (length names) nameLimit && leb (length (joined entry_bytes names) + length (name_bytes n)) byteLimit)
