-- How the code reads a text: one pass over its code points by a rule that keeps a state. No public contract cites these.
use Rattle.std.specs.Prelude.{Bool, true, false, not, ◌&&◌, cond, List, [], ◌∷◌, ℕ, eqb, Option, None, Some, Result, Ok, Err}
use Rattle.chars.specs.declared.NotUtf8.{NotUtf8}
use Rattle.chars.specs.declared.Rule.{Rule}
use Rattle.chars.specs.declared.Rule.TheVariants.{Utf8, Text, Literal, Comment, PiData, Name, WhiteSpace}
use Rattle.chars.specs.declared.State.{State}
use Rattle.chars.specs.declared.State.TheVariants.{Start, Inside, Mark, Failed}
use Rattle.chars.specs.Productions.{is_char11}
use Rattle.chars.specs.Classes.{class_of}
use Rattle.chars.specs.Checks.{is_literal, is_space}

abbrev pub is_start : State → Bool
is_start Start = true
is_start Inside = false
is_start Mark = false
is_start Failed = false

abbrev pub is_mark : State → Bool
is_mark Start = false
is_mark Inside = false
is_mark Mark = true
is_mark Failed = false

abbrev pub has_failed : State → Bool
has_failed Start = false
has_failed Inside = false
has_failed Mark = false
has_failed Failed = true

abbrev pub inside_if : Bool → State
inside_if b = cond b Inside Failed

-- a code point of a comment: a dash after a dash fails
unfoldable pub comment_next : State → ℕ → State
comment_next s c = cond (is_literal c) (cond (eqb c 0x2D) (cond (is_mark s) Failed Mark) Inside) Failed

-- a code point of PI data: ">" after "?" fails
unfoldable pub pi_next : State → ℕ → State
pi_next s c = cond (is_literal c) (cond (eqb c 0x3F) Mark (cond (eqb c 0x3E) (inside_if (not (is_mark s))) Inside)) Failed

-- a code point of a name: no colon, and a NameStartChar at the start
unfoldable pub name_next : State → ℕ → State
name_next s c = cond (eqb c 0x3A) Failed (cond (eqb (class_of c) 2) Inside (inside_if (not (is_start s) && eqb (class_of c) 1)))

unfoldable pub next : Rule → State → ℕ → State
next Utf8 s c = Inside
next Text s c = inside_if (is_char11 c)
next Literal s c = inside_if (is_literal c)
next Comment s c = comment_next s c
next PiData s c = pi_next s c
next Name s c = name_next s c
next WhiteSpace s c = inside_if (is_space c)

-- what has failed stays so
unfoldable pub turn : Rule → State → ℕ → State
turn rule s c = cond (has_failed s) Failed (next rule s c)

abbrev pub run : Rule → State → List ℕ → State
run rule s [] = s
run rule s (c ∷ l) = run rule (turn rule s c) l

abbrev pub is_name : Rule → Bool
is_name Utf8 = false
is_name Text = false
is_name Literal = false
is_name Comment = false
is_name PiData = false
is_name Name = true
is_name WhiteSpace = false

abbrev pub is_comment : Rule → Bool
is_comment Utf8 = false
is_comment Text = false
is_comment Literal = false
is_comment Comment = true
is_comment PiData = false
is_comment Name = false
is_comment WhiteSpace = false

-- whether the text may end here: a name is not empty, and a comment does not end in a dash
unfoldable pub may_end : Rule → State → Bool
may_end rule Start = not (is_name rule)
may_end rule Inside = true
may_end rule Mark = not (is_comment rule)
may_end rule Failed = false

-- what reading a text by a rule finds: whether the rule holds of it, or that it is none
abbrev pub Verdict : Type 0
Verdict = Result Bool NotUtf8

unfoldable pub verdict_after : Rule → State → Option (List ℕ) → Verdict
verdict_after rule s None = Err (record {})
verdict_after rule s (Some l) = Ok (may_end rule (run rule s l))
