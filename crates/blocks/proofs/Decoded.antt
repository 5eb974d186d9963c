-- Between the words of an arena and the model: what a layer above hands to a call, and what it reads afterwards.
-- Assumes nothing.
use mathlib.Core.Path.{◌≡◌, refl, sym, ap, ◌∙◌}
use mathlib.Core.Bool.{Bool, true, false}
use mathlib.Core.List.{List}
use Prim.Native.Nat.{ℕ, ◌+◌, ◌≤◌}
use native.Mathlib.Omega.{arith}
use lib.ListN.{length, take, drop, length-append, take-append-drop}
use lib.Seq.{take_at, drop_at, length-take-le}
use Rattle.blocks.specs.Arena.{Arena, Block, block, arena_of, arena_words, capacity_of, has_room, inserted, removed}
use Rattle.blocks.specs.Answer.{insert_words}
use Rattle.blocks.specs.Held.{Held}
use Rattle.blocks.specs.Rule.{Inside, Shaped, BlocksApart}
use Rattle.blocks.proofs.Answers.{words-room, words-full}
use Rattle.blocks.proofs.Edits.{inserted-ids-length, inserted-caps-length, removed-start, removed-used, removed-ids-length, removed-caps-length}
use Rattle.blocks.proofs.Halves.{ids-length, shaped-held, inside-held}
use Rattle.blocks.proofs.Removal.{removed-inside}

-- ---- words and arenas

pub decoded : (a : Arena) (limit : ℕ) → length a.ids ≡ limit → arena_of limit a.used (arena_words a) ≡ a
decoded a limit e = λ i. record { ids = take_at a.ids a.caps limit e i; caps = drop_at a.ids a.caps limit e i; used = a.used }

pub encoded : (w : List ℕ) (limit used : ℕ) → arena_words (arena_of limit used w) ≡ w
encoded w limit used = take-append-drop limit w

pub words-length : (a : Arena) → length a.caps ≡ length a.ids → length (arena_words a) ≡ length a.ids + length a.ids
words-length a e = length-append a.ids a.caps ∙ ap (λ (n : ℕ). length a.ids + n) e

-- ---- what a call asks follows from rule 5

pub held : (w : List ℕ) (limit used i : ℕ) (B : ℕ → Block) → length w ≡ limit + limit → BlocksApart (arena_of limit used w) B → Held w limit used (B i).start (B i).len
held w limit used i B e r =
    record {
      twice = e;
      fits = omega (arith, r.shaped.fits, length-take-le limit w (omega arith));
      inside = (r.inside i).below;
    }

-- a removal does not ask for the length in use
pub held-limit : (w : List ℕ) (limit used s n : ℕ) → Held w limit used s n → Held w limit limit s n
held-limit w limit used s n h =
    record { twice = h.twice; fits = omega arith; inside = omega (arith, h.inside, h.fits) }

-- ---- the words after an edit, read as an arena

at-start : (caps : List ℕ) (b : Block) (s u : ℕ) → b.start ≡ s → b.start + capacity_of caps b ≤ u → s + capacity_of caps (block s b.len) ≤ u
at-start caps b s u e h = rw (← e) h

module _ (w : List ℕ) (limit used s n : ℕ) (h : Held w limit used s n) where
  abbrev A : Arena
  A = arena_of limit used w

  ids-limit : length (take limit w) ≡ limit
  ids-limit = ids-length w limit (omega (arith, h.twice))

  module _ (k id : ℕ) where
    module _ (r : has_room (arena_of limit used w) (block s n) ≡ true) where
      inserted-limit : length (inserted A (block s n) k id).arena.ids ≡ limit
      inserted-limit = inserted-ids-length A (block s n) (shaped-held w limit used s n h) (inside-held w limit used s n h) k id r ∙ ids-limit

      pub decoded-inserted : arena_of limit (inserted (arena_of limit used w) (block s n) k id).arena.used (insert_words w (arena_of limit used w) (block s n) k id)
          ≡ (inserted (arena_of limit used w) (block s n) k id).arena
      decoded-inserted = rw (words-room w A (block s n) k id r) (decoded (inserted A (block s n) k id).arena limit inserted-limit)

    pub after-length : length (insert_words w (arena_of limit used w) (block s n) k id) ≡ limit + limit
    after-length = go (has_room A (block s n)) refl
      where
        go : (t : Bool) → has_room A (block s n) ≡ t → length (insert_words w A (block s n) k id) ≡ limit + limit
        go true r =
            let sh : Shaped A = shaped-held w limit used s n h in
            rw (words-room w A (block s n) k id r)
            (words-length (inserted A (block s n) k id).arena
            (inserted-caps-length A (block s n) sh (inside-held w limit used s n h) k id r ∙ sh.paired ∙ ids-limit ∙ sym (inserted-limit r))
            ∙ omega (arith, inserted-limit r))
        go false r = rw (words-full w A (block s n) k id r) h.twice

  module _ (id : ℕ) where
    removed-limit : length (removed A (block s n) id).arena.ids ≡ limit
    removed-limit = removed-ids-length A (block s n) (shaped-held w limit used s n h) (inside-held w limit used s n h) id ∙ ids-limit

    pub decoded-removed : arena_of limit used (arena_words (removed (arena_of limit used w) (block s n) id).arena) ≡ (removed (arena_of limit used w) (block s n) id).arena
    decoded-removed =
        ap (λ (u : ℕ). arena_of limit u (arena_words (removed A (block s n) id).arena)) (sym (removed-used A (block s n) id))
        ∙ decoded (removed A (block s n) id).arena limit removed-limit

    pub after-removal-length : length (arena_words (removed (arena_of limit used w) (block s n) id).arena) ≡ limit + limit
    after-removal-length =
        let sh : Shaped A = shaped-held w limit used s n h in
        words-length (removed A (block s n) id).arena
        (removed-caps-length A (block s n) id ∙ sh.paired ∙ ids-limit ∙ sym removed-limit)
        ∙ omega (arith, removed-limit)

    -- after a removal the block can be handed to the next call
    pub held-removed : Held (arena_words (removed (arena_of limit used w) (block s n) id).arena) limit used s (removed (arena_of limit used w) (block s n) id).block.len
    held-removed =
        let inb : Inside (removed A (block s n) id).arena (removed A (block s n) id).block =
        removed-inside A (block s n) (shaped-held w limit used s n h) (inside-held w limit used s n h) id in
        let c : drop limit (arena_words (removed A (block s n) id).arena) ≡ (removed A (block s n) id).arena.caps =
        drop_at (removed A (block s n) id).arena.ids (removed A (block s n) id).arena.caps limit removed-limit in
        record {
          twice = after-removal-length;
          fits = h.fits;
          inside =
              rw c
              (at-start (removed A (block s n) id).arena.caps (removed A (block s n) id).block s used (removed-start A (block s n) id)
              (omega (arith, inb.below, removed-used A (block s n) id)));
        }
