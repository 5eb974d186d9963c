-- The part of an arena, lent to the block editor and returned.
-- Assumes nothing.
use mathlib.Core.Path.{◌≡◌, ap, ◌∙◌}
use mathlib.Core.List.{List, ◌++◌}
use Prim.Native.Nat.{ℕ, ◌+◌, ◌-◌, ◌*◌}
use native.Mathlib.Omega.{arith}
use lib.ListN.{length, take, drop}
use Rattle.words.specs.Parts.{part, put}
use Rattle.words.proofs.Parts.{lent, returned}
use Rattle.blocks.specs.Arena.{Arena, block, arena_of, arena_words, removed}
use Rattle.blocks.specs.Answer.{insert_answer, insert_words}
use Rattle.blocks.specs.Held.{Held}
use Rattle.std.specs.Prelude.{Option}
use Rattle.blocks.specs.declared.Inserted.{Inserted}
use Rattle.blocks.proofs.Decoded.{after-length, after-removal-length, held-limit}
use Rattle.model.specs.Kinds.{Which}
use Rattle.layout.specs.declared.Document.{Document}
use Rattle.layout.specs.Layout as layout
use Rattle.layout.specs.Layout.{limits_of, entries_of, arena_at}
use Rattle.memory.specs.Decode.{arena_part, arena_used, arena_in}
use Rattle.memory.specs.Writing.{put_arena}

module _ (d : Document) (w : Which) (mem : List ℕ) where
  abbrev E : ℕ
  E = entries_of d.limits w

  module _ (start stop : ℕ) (e : start ≡ arena_at (limits_of d.limits) w) (es : stop ≡ start + layout.arena_words (limits_of d.limits) w) where
    abbrev cut : List ℕ
    cut = take (stop - start) (drop start mem)

    pub arena-lent : cut ≡ arena_part d w mem
    arena-lent = rw es (lent mem start (2 * E)) ∙ ap (λ (a : ℕ). part a (2 * E) mem) e

    module _ (limit : ℕ) (el : limit ≡ entries_of d.limits w) (s n : ℕ) where
      -- what the block editor asks
      pub insert-asked : (used : ℕ) → used ≡ arena_used d w → Held (arena_part d w mem) (entries_of d.limits w) (arena_used d w) s n
          → Held cut limit used s n
      insert-asked used eu h = rw (arena-lent, el, eu) h

      pub drop-asked : Held (arena_part d w mem) (entries_of d.limits w) (arena_used d w) s n
          → Held cut limit limit s n
      drop-asked h = rw (arena-lent, el) (held-limit (arena_part d w mem) E (arena_used d w) s n h)

      arena-returned : (ys zs : List ℕ) → length zs ≡ E + E → ys ≡ zs
          → take start mem ++ (ys ++ drop (stop - start) (drop start mem)) ≡ put_arena d w zs mem
      unfolding put_arena
      arena-returned ys zs k q =
          let long : length zs ≡ 2 * E = omega (arith, k) in
          rw (q, es) (returned mem zs start (2 * E) long) ∙ ap (λ (a : ℕ). put a zs mem) e

      module _ (h : Held (arena_part d w mem) (entries_of d.limits w) (arena_used d w) s n) where
        -- what it tells of an insertion
        pub insert-told : (used at id : ℕ) → used ≡ arena_used d w → (r : Option Inserted) (ys : List ℕ)
            → (r ≡ insert_answer (arena_of limit used cut) (block s n) at id)
            × (ys ≡ insert_words cut (arena_of limit used cut) (block s n) at id)
            → (r ≡ insert_answer (arena_in d w mem) (block s n) at id)
            × (take start mem ++ (ys ++ drop (stop - start) (drop start mem))
            ≡ put_arena d w (insert_words (arena_part d w mem) (arena_in d w mem) (block s n) at id) mem)
        insert-told used at id eu r ys t =
            let A : arena_of limit used cut ≡ arena_in d w mem = rw (arena-lent, el, eu) in (
              t.0 ∙ ap (λ (a : Arena). insert_answer a (block s n) at id) A,
              arena-returned ys (insert_words (arena_part d w mem) (arena_in d w mem) (block s n) at id) (after-length (arena_part d w mem) E (arena_used d w) s n h at id)
                  (t.1
                  ∙ ap (λ (v : List ℕ). insert_words v (arena_of limit used cut) (block s n) at id) arena-lent
                  ∙ ap (λ (a : Arena). insert_words (arena_part d w mem) a (block s n) at id) A),
            )

        -- and of a removal
        pub drop-told : (id r : ℕ) (ys : List ℕ)
            → ((used : ℕ) → r ≡ (removed (arena_of limit used cut) (block s n) id).block.len)
            × ((used : ℕ) → ys ≡ arena_words (removed (arena_of limit used cut) (block s n) id).arena)
            → (r ≡ (removed (arena_in d w mem) (block s n) id).block.len)
            × (take start mem ++ (ys ++ drop (stop - start) (drop start mem))
            ≡ put_arena d w (arena_words (removed (arena_in d w mem) (block s n) id).arena) mem)
        drop-told id r ys t =
            let A : arena_of limit (arena_used d w) cut ≡ arena_in d w mem = rw (arena-lent, el) in (
              t.0 (arena_used d w) ∙ ap (λ (a : Arena). (removed a (block s n) id).block.len) A,
              arena-returned ys (arena_words (removed (arena_in d w mem) (block s n) id).arena) (after-removal-length (arena_part d w mem) E (arena_used d w) s n h id)
                  (t.1 (arena_used d w) ∙ ap (λ (a : Arena). arena_words (removed a (block s n) id).arena) A),
            )
