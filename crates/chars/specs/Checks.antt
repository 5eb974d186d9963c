-- What names, texts, comments, processing instructions, prefixes and URIs may be, over code points and through UTF-8 over bytes.
-- Where names are tested the class function is the first argument.
use Rattle.std.specs.Prelude.{Bool, true, false, not, ◌&&◌, ◌||◌, cond, List, [], ◌∷◌, map, ℕ, ◌+◌, eqb, Option, None, Some, Result, Ok, Err}
use Prim.Native.Char.{code}
use Prim.Native.String.{String, [] as ε, ◌∷◌ as ◌▸◌}
use Rattle.words.specs.Lists.{all}
use Rattle.chars.specs.declared.Fault.{Fault}
use Rattle.chars.specs.declared.Fault.TheVariants.{NotUtf8, InvalidName, InvalidText}
use Rattle.chars.specs.Productions.{within, is_char, is_char11}
use Rattle.chars.specs.Classes.{is_nc_name}
use Rattle.chars.specs.Utf8.{decode}

-- what a check answers: that the text passed, or why not
abbrev pub Check : Type 0
Check = Result (Unit {0}) Fault

abbrev pub passed : Check
passed = Ok tt

abbrev pub refused : Fault → Check
refused why = Err why

-- "1 NotUtf8", "2 InvalidName, 3 InvalidText: as in names.rs"; 0 where nothing is refused
abbrev pub number_of : Check → ℕ
number_of (Ok u) = 0
number_of (Err NotUtf8) = 1
number_of (Err InvalidName) = 2
number_of (Err InvalidText) = 3

-- a quoted text as its code points, which for ASCII are its bytes
abbrev pub quoted : String → List ℕ
quoted ε = []
quoted (c ▸ s) = code c ∷ quoted s

-- whether the text is the given one
abbrev pub spells : List ℕ → List ℕ → Bool
spells [] [] = true
spells [] (y ∷ l) = false
spells (x ∷ k) [] = false
spells (x ∷ k) (y ∷ l) = eqb x y && spells k l

-- whether b stands right after a somewhere, and whether the last is a
abbrev pub contains : ℕ → ℕ → List ℕ → Bool
contains a b [] = false
contains a b (x ∷ []) = false
contains a b (x ∷ y ∷ l) = (eqb x a && eqb y b) || contains a b (y ∷ l)

abbrev pub ends_with : ℕ → List ℕ → Bool
ends_with a [] = false
ends_with a (x ∷ []) = eqb x a
ends_with a (x ∷ y ∷ l) = ends_with a (y ∷ l)

-- a second test where the first passed, as the Rust's `?`
infixl 5 ◌then◌
abbrev pub ◌then◌ : Check → Check → Check
(Ok u) then k = k
(Err why) then k = Err why

-- "A prefix is empty, or an NCName other than "xml" and "xmlns""
abbrev pub is_empty : List ℕ → Bool
is_empty [] = true
is_empty (x ∷ l) = false

unfoldable pub is_xmlns : List ℕ → Bool
is_xmlns l = spells (quoted "xmlns") l

unfoldable pub check_prefix : (ℕ → ℕ) → List ℕ → Check
check_prefix class l = cond (is_empty l || (is_nc_name class l && (not (spells (quoted "xml") l) && not (is_xmlns l)))) passed (refused InvalidName)

-- "Text, attribute values and URIs take XML 1.1 Char"
unfoldable pub check_text : List ℕ → Check
check_text l = cond (all is_char11 l) passed (refused InvalidText)

-- "Comment and PI data take XML 1.0 Char without U+000D"
unfoldable pub is_literal : ℕ → Bool
is_literal c = not (eqb c 0xD) && is_char c

unfoldable pub check_literal : List ℕ → Check
check_literal l = cond (all is_literal l) passed (refused InvalidText)

-- "no "--" or final "-" in a comment"
unfoldable pub check_comment : List ℕ → Check
check_comment l = check_literal l then cond (contains 0x2D 0x2D l || ends_with 0x2D l) (refused InvalidText) passed

-- ""xml" in any ASCII case"
abbrev pub lower : ℕ → ℕ
lower c = cond (within c (0x41, 0x5A)) (c + 0x20) c

unfoldable pub is_xml : List ℕ → Bool
is_xml l = spells (quoted "xml") (map lower l)

-- "A PI target is an NCName other than "xml" in any ASCII case", "no "?>" in PI data"
unfoldable pub check_pi : (ℕ → ℕ) → List ℕ → List ℕ → Check
check_pi class target data' =
    cond (not (is_nc_name class target) || is_xml target) (refused InvalidName)
    (check_literal data' then cond (contains 0x3F 0x3E data') (refused InvalidText) passed)

-- "A URI "http://www.w3.org/2000/xmlns/" is InvalidName; declaring "http://www.w3.org/XML/1998/namespace" too"
abbrev pub xmlns_uri : List ℕ
xmlns_uri = quoted "http://www.w3.org/2000/xmlns/"

abbrev pub xml_uri : List ℕ
xml_uri = quoted "http://www.w3.org/XML/1998/namespace"

unfoldable pub check_namespace : List ℕ → Check
check_namespace l = check_text l then cond (spells xmlns_uri l) (refused InvalidName) passed

unfoldable pub check_namespace_binding : List ℕ → Check
check_namespace_binding l = check_namespace l then cond (spells xml_uri l) (refused InvalidName) passed

-- "Text under the Root is space, tab, newline only, or empty"
unfoldable pub is_space : ℕ → Bool
is_space c = eqb c 0x20 || (eqb c 0x9 || eqb c 0xA)

unfoldable pub is_white_space : List ℕ → Bool
is_white_space l = all is_space l

-- ---- through UTF-8 over bytes

-- "1 NotUtf8: a byte argument isn't UTF-8", before the other checks
abbrev pub checked : (List ℕ → Check) → Option (List ℕ) → Check
checked check None = refused NotUtf8
checked check (Some l) = check l

unfoldable pub on_text : (List ℕ → Check) → List ℕ → Check
on_text check bytes = checked check (decode bytes)

unfoldable pub on_texts : (List ℕ → List ℕ → Check) → List ℕ → List ℕ → Check
on_texts check first second = on_text (λ (a : List ℕ). on_text (check a) second) first

-- a test of the text that the bytes spell, false where they spell none
abbrev pub tested : (List ℕ → Bool) → Option (List ℕ) → Bool
tested test None = false
tested test (Some l) = test l

unfoldable pub of_text : (List ℕ → Bool) → List ℕ → Bool
of_text test bytes = tested test (decode bytes)

-- whether the bytes are UTF-8
unfoldable pub is_utf8 : List ℕ → Bool
is_utf8 bytes = of_text (λ (l : List ℕ). true) bytes
