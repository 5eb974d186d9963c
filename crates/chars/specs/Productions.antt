-- The productions of XML 1.0 (fifth edition) for characters and names, and XML 1.1's Char: "XML 1.0 fifth edition gives Char, NameStartChar and NameChar".
use Rattle.std.specs.Prelude.{Bool, ◌&&◌, ◌||◌, List, [], ◌∷◌, ℕ, leb}
use Rattle.words.specs.Lists.{any}

-- [#xA-#xB] with both its ends; a single character is a range of one
unfoldable pub within : ℕ → ℕ × ℕ → Bool
within c range = leb range.0 c && leb c range.1

-- Char ::= #x9 | #xA | #xD | [#x20-#xD7FF] | [#xE000-#xFFFD] | [#x10000-#x10FFFF]
abbrev pub char_ranges : List (ℕ × ℕ)
char_ranges = (0x9, 0x9) ∷ (0xA, 0xA) ∷ (0xD, 0xD) ∷ (0x20, 0xD7FF) ∷ (0xE000, 0xFFFD) ∷ (0x10000, 0x10FFFF) ∷ []

unfoldable pub is_char : ℕ → Bool
is_char c = any (within c) char_ranges

-- XML 1.1: Char ::= [#x1-#xD7FF] | [#xE000-#xFFFD] | [#x10000-#x10FFFF], "all but U+0000, U+FFFE, U+FFFF"
abbrev pub char_ranges11 : List (ℕ × ℕ)
char_ranges11 = (0x1, 0xD7FF) ∷ (0xE000, 0xFFFD) ∷ (0x10000, 0x10FFFF) ∷ []

unfoldable pub is_char11 : ℕ → Bool
is_char11 c = any (within c) char_ranges11

-- NameStartChar ::= ":" | [A-Z] | "_" | [a-z] | [#xC0-#xD6] | [#xD8-#xF6] | [#xF8-#x2FF] | [#x370-#x37D] | [#x37F-#x1FFF] | [#x200C-#x200D]
--                 | [#x2070-#x218F] | [#x2C00-#x2FEF] | [#x3001-#xD7FF] | [#xF900-#xFDCF] | [#xFDF0-#xFFFD] | [#x10000-#xEFFFF]
abbrev pub name_start_ranges : List (ℕ × ℕ)
name_start_ranges =
    (0x3A, 0x3A)
    ∷ (0x41, 0x5A)
    ∷ (0x5F, 0x5F)
    ∷ (0x61, 0x7A)
    ∷ (0xC0, 0xD6)
    ∷ (0xD8, 0xF6)
    ∷ (0xF8, 0x2FF)
    ∷ (0x370, 0x37D)
    ∷ (0x37F, 0x1FFF)
    ∷ (0x200C, 0x200D)
    ∷ (0x2070, 0x218F)
    ∷ (0x2C00, 0x2FEF)
    ∷ (0x3001, 0xD7FF)
    ∷ (0xF900, 0xFDCF)
    ∷ (0xFDF0, 0xFFFD)
    ∷ (0x10000, 0xEFFFF)
    ∷ []

unfoldable pub is_name_start_char : ℕ → Bool
is_name_start_char c = any (within c) name_start_ranges

-- NameChar ::= NameStartChar | "-" | "." | [0-9] | #xB7 | [#x0300-#x036F] | [#x203F-#x2040]
abbrev pub name_ranges : List (ℕ × ℕ)
name_ranges = (0x2D, 0x2D) ∷ (0x2E, 0x2E) ∷ (0x30, 0x39) ∷ (0xB7, 0xB7) ∷ (0x300, 0x36F) ∷ (0x203F, 0x2040) ∷ []

unfoldable pub is_name_char : ℕ → Bool
is_name_char c = is_name_start_char c || any (within c) name_ranges
