-- What `next` gives to both slices.
-- Assumes nothing.
use Rattle.std.specs.Prelude.{Result, Ok, None, Option}
use mathlib.Core.Path.{◌≡◌, sym}
use mathlib.Core.List.{List, [], ◌∷◌}
use Prim.Native.Nat.{ℕ}
use Rattle.words.specs.Parts.{put}
use Rattle.words.proofs.Parts.{put-nil}
use Rattle.model.specs.declared.Refusal.{Refusal}
use Rattle.steps.specs.declared.position.Position.{Position}
use Rattle.encoding.specs.Given.{status_of, given_to}
use Rattle.encoding.specs.Positions.{next_words, next_position}

abbrev pub GivesNext : List ℕ → List ℕ → Result (Option Position) Refusal → ℕ → List ℕ → List ℕ → Type 0
GivesNext at out r status at' out' = (status ≡ status_of (next_words r)) × (at' ≡ given_to at (next_position r)) × (out' ≡ given_to out (next_words r))

-- at the end the position stays
pub next-ended : (at out : List ℕ) (r : Result (Option Position) Refusal) (o : Option Position) → r ≡ Ok o → o ≡ None
    → (status : ℕ) (out' : List ℕ) → (status ≡ 0) × (out' ≡ put 0 (0 ∷ 0 ∷ []) out) → GivesNext at out r status at out'
next-ended at out r o e n status out' g = rw (e, n) (g.0, sym (put-nil at 0 []), g.1)
