-- What the code of an insertion reads and stores is what the model says.
-- Assumes nothing.
use mathlib.Core.Path.{◌≡◌, refl, sym, ap, ◌∙◌}
use mathlib.Core.Bool.{Bool, true, false}
use mathlib.Core.List.{List}
use Prim.Native.Nat.{ℕ, ◌+◌, ◌*◌, ◌-◌, ◌≤◌, ◌<◌, min, max}
use native.Mathlib.Decide.{dec_lt}
use native.Mathlib.Omega.{arith}
use lib.ListN.{length, set, take, drop, replicate}
use lib.Dec.{leb}
use borrow.Author.Tests.{leb-true, leb-false}
use Rattle.words.specs.Parts.{part, put}
use Rattle.words.specs.Lists.{insert_at}
use Rattle.words.proofs.Lists.{insert_at-min}
use Rattle.std.specs.Prelude.{Option, Some, None}
use Rattle.blocks.specs.declared.Inserted.{Inserted}
use Rattle.blocks.specs.Arena.{block, arena_of, capacity_of, takes, has_room, moved_capacity}
use Rattle.blocks.specs.Answer.{insert_answer, insert_words}
use Rattle.blocks.specs.Held.{Held}
use Rattle.blocks.proofs.Edits.{takes_none, takes_moved, room-when, no-room-when, inserted-in-place, inserted-moved, list_length, insert_at-length}
use Rattle.blocks.proofs.Halves.{ids-length, put-ids, put-cleared-ids, shaped-held, inside-held, half, block-ids}

-- the entries that an insertion takes, whatever the length in use
pub entries_none : (w : List ℕ) (limit s n cap : ℕ) → cap ≡ capacity_of (drop limit w) (block s n) → n < cap → (used : ℕ) → 0 ≡ takes (arena_of limit used w) (block s n)
entries_none w limit s n cap e h used = sym (takes_none (arena_of limit used w) (block s n) (omega arith))

pub entries-moved : (w : List ℕ) (limit s n cap r : ℕ) → cap ≡ capacity_of (drop limit w) (block s n) → cap ≤ n → r ≡ max (2 * n) 4
    → (used : ℕ) → r ≡ takes (arena_of limit used w) (block s n)
entries-moved w limit s n cap r e h q used = q ∙ sym (takes_moved (arena_of limit used w) (block s n) (omega arith))

module _ (w : List ℕ) (limit used s n : ℕ) (held : Held w limit used s n) where
  -- the room, by the entries that an insertion takes
  pub room-read : (more : ℕ) → more ≡ takes (arena_of limit used w) (block s n) → leb more (limit - used) ≡ has_room (arena_of limit used w) (block s n)
  room-read more e = go (leb more (limit - used)) refl
    where
      go : (t : Bool) → leb more (limit - used) ≡ t → t ≡ has_room (arena_of limit used w) (block s n)
      go true q =
          sym (room-when (arena_of limit used w) (block s n)
          (omega (arith, ids-length w limit (half w limit used s n held), leb-true more (limit - used) q, held.fits)))
      go false q =
          sym (no-room-when (arena_of limit used w) (block s n)
          (omega (arith, ids-length w limit (half w limit used s n held), leb-false more (limit - used) q, held.fits)))

  -- ---- insertion

  spare-when : takes (arena_of limit used w) (block s n) ≡ 0 → n < capacity_of (drop limit w) (block s n)
  spare-when e = go (dec_lt n (capacity_of (drop limit w) (block s n)))
    where
      go : Dec (n < capacity_of (drop limit w) (block s n)) → n < capacity_of (drop limit w) (block s n)
      go (yes h) = h
      go (no h) = absurd (omega (arith, takes_moved (arena_of limit used w) (block s n) (omega arith)))

  moved-when : (takes (arena_of limit used w) (block s n) ≡ 0 → ⊥) → capacity_of (drop limit w) (block s n) ≤ n
  moved-when h = go (dec_lt n (capacity_of (drop limit w) (block s n)))
    where
      go : Dec (n < capacity_of (drop limit w) (block s n)) → capacity_of (drop limit w) (block s n) ≤ n
      go (yes g) = absurd (h (takes_none (arena_of limit used w) (block s n) g))
      go (no g) = omega arith

  -- what the two ways of an insertion ask
  pub spare-fits : (more : ℕ) → more ≡ takes (arena_of limit used w) (block s n) → more ≡ 0 → s + n < length w
  spare-fits more e z = omega (arith, spare-when (sym e ∙ z), held.inside, held.fits, held.twice)

  pub moved_more : (more : ℕ) → more ≡ takes (arena_of limit used w) (block s n) → (more ≡ 0 → ⊥) → n < more
  moved_more more e z = omega (arith, takes_moved (arena_of limit used w) (block s n) (moved-when (λ t. z (e ∙ t))))

  module _ (k id more : ℕ) (e : more ≡ takes (arena_of limit used w) (block s n)) where
    -- the answer and the words that the code hands back
    abbrev pub Inserts : Option Inserted → List ℕ → Type 0
    Inserts r w' =
        (r ≡ insert_answer (arena_of limit used w) (block s n) k id) × (w' ≡ insert_words w (arena_of limit used w) (block s n) k id)

    pub inserts-full : limit - used < more → Inserts None w
    unfolding insert_answer insert_words
    inserts-full h =
        rw (no-room-when (arena_of limit used w) (block s n) (omega (arith, ids-length w limit (half w limit used s n held), held.fits))) (refl, refl)

    module _ (fit : more ≤ limit - used) (index : ℕ) (m : index ≡ min k n) where
      room : has_room (arena_of limit used w) (block s n) ≡ true
      room = room-when (arena_of limit used w) (block s n) (omega (arith, ids-length w limit (half w limit used s n held), held.fits))

      clamped : insert_at index id (part s n w) ≡ insert_at k id (part s n (take limit w))
      clamped =
          ap (insert_at index id) (block-ids w limit used s n held)
          ∙ ap (λ (i : ℕ). insert_at i id (part s n (take limit w))) m
          ∙ insert_at-min k id (part s n (take limit w)) n (list_length (arena_of limit used w) (block s n) (shaped-held w limit used s n held) (inside-held w limit used s n held))

      new-length : length (insert_at k id (part s n (take limit w))) ≡ n + 1
      new-length = insert_at-length (arena_of limit used w) (block s n) (shaped-held w limit used s n held) (inside-held w limit used s n held) k id

      pub inserts-in-place : more ≡ 0 → (w' : List ℕ) → w' ≡ put s (insert_at index id (part s n w)) w → Inserts (Some (record { block = block s (n + 1); used = used; index = index })) w'
      unfolding insert_answer insert_words
      inserts-in-place z w' q =
          let spare : n < capacity_of (drop limit w) (block s n) = spare-when (omega arith) in
          rw (room, inserted-in-place (arena_of limit used w) (block s n) k id spare) (
            ap (λ (i : ℕ). Some (record { block = block s (n + 1); used = used; index = i })) m,
            q ∙ ap (λ (l : List ℕ). put s l w) clamped
                ∙ put-ids w limit (half w limit used s n held) s (insert_at k id (part s n (take limit w))) (omega (arith, new-length, held.fits, held.inside)),
          )

      pub inserts-moved : (more ≡ 0 → ⊥) → (w' : List ℕ) → w' ≡ set (put (limit + used) (replicate more 0) (set (put used (insert_at index id (part s n w)) w) (limit + s) 0)) (limit + used) more
          → Inserts (Some (record { block = block used (n + 1); used = used + more; index = index })) w'
      unfolding insert_answer insert_words
      inserts-moved z w' q =
          let past : capacity_of (drop limit w) (block s n) ≤ n = moved-when (λ t. z (e ∙ t)) in
          let r : more ≡ moved_capacity n = e ∙ takes_moved (arena_of limit used w) (block s n) past in
          rw (room, inserted-moved (arena_of limit used w) (block s n) k id past, r) (
            ap (λ (i : ℕ). Some (record { block = block used (n + 1); used = used + moved_capacity n; index = i })) m,
            q ∙ ap (λ (l : List ℕ). set (put (limit + used) (replicate more 0) (set (put used l w) (limit + s) 0)) (limit + used) more) clamped
                ∙ ap (λ (c : ℕ). set (put (limit + used) (replicate c 0) (set (put used (insert_at k id (part s n (take limit w))) w) (limit + s) 0)) (limit + used) c) r
                ∙ put-cleared-ids w limit (half w limit used s n held) (insert_at k id (part s n (take limit w))) used s used (moved_capacity n) (moved_capacity n) (omega (arith, new-length, held.fits)),
          )
