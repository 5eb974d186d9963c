-- Classes of code points, and names by a class function, so that another table may stand for the built-in one.
use Rattle.std.specs.Prelude.{Bool, false, not, ◌&&◌, ◌||◌, cond, List, [], ◌∷◌, ℕ, eqb}
use Rattle.words.specs.Lists.{all}
use Rattle.chars.specs.Productions.{is_name_start_char, is_name_char}

-- "0 none, 1 NameChar only, 2 NameStartChar": the built-in class, below 2,048 as from there on
unfoldable pub class_of : ℕ → ℕ
class_of c = cond (is_name_start_char c) 2 (cond (is_name_char c) 1 0)

-- a colon is a NameStartChar, and no part of an NCName
abbrev pub starts_name : (ℕ → ℕ) → ℕ → Bool
starts_name class c = not (eqb c 0x3A) && eqb (class c) 2

abbrev pub continues_name : (ℕ → ℕ) → ℕ → Bool
continues_name class c = not (eqb c 0x3A) && (eqb (class c) 1 || eqb (class c) 2)

-- "NCName is Name without a colon": Name ::= NameStartChar (NameChar)*
unfoldable pub is_nc_name : (ℕ → ℕ) → List ℕ → Bool
is_nc_name class [] = false
is_nc_name class (c ∷ l) = starts_name class c && all (continues_name class) l
