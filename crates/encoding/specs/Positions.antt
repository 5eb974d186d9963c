-- The position of a walk as words (02, a): seven, and any seven words are one.
use Rattle.std.specs.Prelude.{List, [], ◌∷◌, ℕ, get_or, Result, Ok, Err, Some, None, Option}
use Rattle.model.specs.declared.Refusal.{Refusal}
use Rattle.steps.specs.declared.position.Position.{Position}
use Rattle.encoding.specs.Given.{Given}

-- the node where the walk began, the node listed last, the four hints, and how many nodes may be listed yet
abbrev pub position_words : Position → List ℕ
position_words p = p.zone ∷ p.node ∷ p.hints.short ∷ p.hints.middling ∷ p.hints.long ∷ p.hints.longest ∷ p.left ∷ []

unfoldable pub position_of : List ℕ → Position
position_of w = record {
  zone = get_or w 0 0;
  node = get_or w 1 0;
  hints = record { short = get_or w 2 0; middling = get_or w 3 0; long = get_or w 4 0; longest = get_or w 5 0 };
  left = get_or w 6 0;
}

-- ---- what an answer gives

abbrev pub start_words : Result Position Refusal → Given
start_words (Ok p) = Ok (position_words p)
start_words (Err why) = Err why

-- 1 and the node listed, or 0 and 0 at the end
abbrev pub next_words : Result (Option Position) Refusal → Given
next_words (Ok (Some p)) = Ok (1 ∷ p.node ∷ [])
next_words (Ok None) = Ok (0 ∷ 0 ∷ [])
next_words (Err why) = Err why

-- the position at the node listed; at the end it stays
abbrev pub next_position : Result (Option Position) Refusal → Given
next_position (Ok (Some p)) = Ok (position_words p)
next_position (Ok None) = Ok []
next_position (Err why) = Err why
