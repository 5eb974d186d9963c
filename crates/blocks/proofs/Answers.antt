-- The answer of an insertion and the words that it leaves, by the room that there is.
-- Assumes nothing.
use mathlib.Core.Path.{◌≡◌, refl, sym, ◌∙◌}
use mathlib.Core.Bool.{Bool, true, false}
use mathlib.Core.List.{List}
use Prim.Native.Nat.{ℕ, ◌+◌, ◌≤◌, ◌<◌}
use lib.ListN.{length}
use Rattle.std.specs.Prelude.{Some, None}
use Rattle.std.proofs.lemmas.Option.{none-some}
use Rattle.blocks.specs.Arena.{Arena, Block, arena_words, takes, has_room, inserted, inserted_at}
use Rattle.blocks.specs.Answer.{landed, insert_answer, insert_words}
use Rattle.blocks.proofs.Edits.{room-when, no-room-when}

module _ (w : List ℕ) (a : Arena) (b : Block) (k id : ℕ) where
  pub answer-room : has_room a b ≡ true → insert_answer a b k id ≡ Some (landed (inserted a b k id) (inserted_at b k))
  unfolding insert_answer
  answer-room r = rw r

  pub answer-full : has_room a b ≡ false → insert_answer a b k id ≡ None
  unfolding insert_answer
  answer-full r = rw r

  pub words-room : has_room a b ≡ true → insert_words w a b k id ≡ arena_words (inserted a b k id).arena
  unfolding insert_words
  words-room r = rw r

  pub words-full : has_room a b ≡ false → insert_words w a b k id ≡ w
  unfolding insert_words
  words-full r = rw r

  -- none exactly when the entries that it takes are not there, and then every word is as it was
  pub full-when : length a.ids < a.used + takes a b → (insert_answer a b k id ≡ None) × (insert_words w a b k id ≡ w)
  full-when h = (answer-full (no-room-when a b h), words-full (no-room-when a b h))

  pub done-when : a.used + takes a b ≤ length a.ids
      → (insert_answer a b k id ≡ Some (landed (inserted a b k id) (inserted_at b k))) × (insert_words w a b k id ≡ arena_words (inserted a b k id).arena)
  done-when h = (answer-room (room-when a b h), words-room (room-when a b h))

  pub full-then : insert_answer a b k id ≡ None → has_room a b ≡ false
  full-then e = go (has_room a b) refl
    where
      go : (t : Bool) → has_room a b ≡ t → t ≡ false
      go true r =
          absurd (none-some (landed (inserted a b k id) (inserted_at b k)) (sym e ∙ answer-room r))
      go false r = refl
