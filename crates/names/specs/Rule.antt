-- What holds of every table that interning made: "Equal (namespace, local) pairs share one `NameId`".
use Rattle.std.specs.Prelude.{◌≡◌, List, ℕ, Option, Some}
use Rattle.names.specs.Table.{Name, name_at}

-- two numbers that show the same pair are one number
pub record Distinct (names : List (Option Name)) : Type 0 where
  pub apart : (n : Name) (i j : ℕ) → name_at names i ≡ Some n → name_at names j ≡ Some n → i ≡ j
