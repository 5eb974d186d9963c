-- UTF-8 by the table of well-formed byte sequences (Unicode, table 3-7; RFC 3629, section 4): no overlong form, no surrogate, nothing above U+10FFFF.
-- The numbers of a list may be any: from 256 on one is no byte. proofs/Encoding.antt shows that `decode` takes back what `encode` gives and accepts nothing else.
use Rattle.std.specs.Prelude.{Bool, ◌&&◌, cond, List, [], ◌∷◌, ℕ, zero, suc, ◌+◌, ◌-◌, ◌*◌, ◌/◌, ◌%◌, ltb, get_or, Option, None, Some}
use Rattle.std.specs.Prelude as std
use Rattle.chars.specs.declared.Point.{Point}
use Rattle.chars.specs.Productions.{within}

-- what stands at an index of a text: a code point with the number of further bytes that spell it, or no well-formed sequence
abbrev pub Step : Type 0
Step = std.Option Point

abbrev pub point : ℕ → ℕ → Step
point code more = Some (record { code = code; more = more })

-- a byte after the first, but for the second of some rows
abbrev pub is_tail : ℕ → Bool
is_tail b = within b (0x80, 0xBF)

-- sequences of two, three and four bytes, the second within the range that the row gives: the code point, and how many numbers after the first it takes
unfoldable pub two : ℕ → ℕ → Step
two a b = cond (is_tail b) (point ((a - 0xC0) * 64 + (b - 0x80)) 1) None

unfoldable pub three : ℕ × ℕ → ℕ → ℕ → ℕ → Step
three second a b c = cond (within b second && is_tail c) (point (((a - 0xE0) * 64 + (b - 0x80)) * 64 + (c - 0x80)) 2) None

unfoldable pub four : ℕ × ℕ → ℕ → ℕ → ℕ → ℕ → Step
four second a b c d =
    cond (within b second && (is_tail c && is_tail d))
    (point ((((a - 0xF0) * 64 + (b - 0x80)) * 64 + (c - 0x80)) * 64 + (d - 0x80)) 3)
    None

-- the row of the first byte, and None where there is none
abbrev pub select : List ((ℕ × ℕ) × Step) → ℕ → Step
select [] a = None
select (row ∷ rows) a = cond (within a row.0) row.1 (select rows a)

-- the table: the first byte's range, and after it the second's where it is not 80..BF
abbrev pub rows : ℕ → ℕ → ℕ → ℕ → List ((ℕ × ℕ) × Step)
rows a b c d =
    ((0x00, 0x7F), point a 0)
    ∷ ((0xC2, 0xDF), two a b)
    ∷ ((0xE0, 0xE0), three (0xA0, 0xBF) a b c)
    ∷ ((0xE1, 0xEC), three (0x80, 0xBF) a b c)
    ∷ ((0xED, 0xED), three (0x80, 0x9F) a b c)
    ∷ ((0xEE, 0xEF), three (0x80, 0xBF) a b c)
    ∷ ((0xF0, 0xF0), four (0x90, 0xBF) a b c d)
    ∷ ((0xF1, 0xF3), four (0x80, 0xBF) a b c d)
    ∷ ((0xF4, 0xF4), four (0x80, 0x8F) a b c d)
    ∷ []

unfoldable pub step : ℕ → ℕ → ℕ → ℕ → Step
step a b c d = select (rows a b c d) a

-- the step at an index; past the end 0 stands, which is no byte after a first one
unfoldable pub step_at : List ℕ → ℕ → Step
step_at l i = step (get_or l i 0) (get_or l (i + 1) 0) (get_or l (i + 2) 0) (get_or l (i + 3) 0)

-- a code point before the others, if there are any to stand before
abbrev pub follows : ℕ → Option (List ℕ) → Option (List ℕ)
follows code None = None
follows code (Some l) = Some (code ∷ l)

-- a step's code point, then what the rest decodes to
abbrev pub and_then : Step → (ℕ → Option (List ℕ)) → Option (List ℕ)
and_then (Some p) rest = follows p.code (rest p.more)
and_then None rest = None

-- the code points after n numbers that belong to the one before; they are there, since a step that would take what is past the end is None
abbrev pub decode_after : ℕ → List ℕ → Option (List ℕ)
decode_after n [] = Some []
decode_after zero (a ∷ l) = and_then (step_at (a ∷ l) 0) (λ (more : ℕ). decode_after more l)
decode_after (suc n) (a ∷ l) = decode_after n l

-- the code points that the bytes spell, or none
unfoldable pub decode : List ℕ → Option (List ℕ)
decode l = decode_after 0 l

-- the bytes of a code point
unfoldable pub encode : ℕ → List ℕ
encode c =
    cond (ltb c 0x80) (c ∷ [])
    (cond (ltb c 0x800) ((0xC0 + c / 64) ∷ (0x80 + c % 64) ∷ [])
    (cond (ltb c 0x10000) ((0xE0 + c / 64 / 64) ∷ (0x80 + c / 64 % 64) ∷ (0x80 + c % 64) ∷ [])
    ((0xF0 + c / 64 / 64 / 64) ∷ (0x80 + c / 64 / 64 % 64) ∷ (0x80 + c / 64 % 64) ∷ (0x80 + c % 64) ∷ [])))
