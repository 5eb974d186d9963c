-- The words of an arena are two lists in one: the ids, then the capacities. What is stored in the one is stored in the two.
-- Assumes nothing.
use mathlib.Core.Path.{◌≡◌, sym, ap, ◌∙◌}
use mathlib.Core.List.{List, ◌++◌}
use Prim.Native.Nat.{ℕ, ◌+◌, ◌≤◌}
use native.Mathlib.Omega.{arith}
use lib.ListN.{length, set, take, drop, replicate, take-append-drop, length-drop}
use lib.Seq.{length-take-le}
use Rattle.words.specs.Parts.{part, put}
use Rattle.words.proofs.Parts.{part_left, put-left, put_right, set-right, length-put}
use Rattle.blocks.specs.Arena.{block, arena_of, unrecorded}
use Rattle.blocks.specs.Rule.{Inside, Shaped}
use Rattle.blocks.specs.Held.{Held}
use Rattle.blocks.proofs.Capacities.{capacity-least}

put-set : (x y vs : List ℕ) (p s v : ℕ) → p + length vs ≤ length x → set (put p vs (x ++ y)) (length x + s) v ≡ put p vs x ++ set y s v
put-set x y vs p s v h =
    let lz : length (put p vs x) ≡ length x = length-put x p vs h in
    rw (put-left x y p vs h, ← lz, set-right (put p vs x) y s v)

-- a list of ids and a record stored, the records of n entries cleared, and a record stored among them
put-cleared : (x y vs : List ℕ) (p s t n v : ℕ) → p + length vs ≤ length x
    → set (put (length x + t) (replicate n 0) (set (put p vs (x ++ y)) (length x + s) 0)) (length x + t) v
    ≡ put p vs x ++ set (unrecorded (set y s 0) t n) t v
put-cleared x y vs p s t n v h =
    let lz : length (put p vs x) ≡ length x = length-put x p vs h in
    rw (put-set x y vs p s 0 h, ← lz, put_right (put p vs x) (set y s 0) t (replicate n 0), set-right (put p vs x) (unrecorded (set y s 0) t n) t v)

-- the first limit words are the ids
module _ (w : List ℕ) (limit : ℕ) (half : limit ≤ length w) where
  pub ids-length : length (take limit w) ≡ limit
  ids-length = length-take-le limit w half

  halves : take limit w ++ drop limit w ≡ w
  halves = take-append-drop limit w

  pub part-ids : (s n : ℕ) → s + n ≤ limit → part s n w ≡ part s n (take limit w)
  part-ids s n h = ap (part s n) (sym halves) ∙ part_left (take limit w) (drop limit w) s n (omega (arith, ids-length))

  pub put-ids : (p : ℕ) (vs : List ℕ) → p + length vs ≤ limit → put p vs w ≡ put p vs (take limit w) ++ drop limit w
  put-ids p vs h = ap (put p vs) (sym halves) ∙ put-left (take limit w) (drop limit w) p vs (omega (arith, ids-length))

  pub put-set-ids : (vs : List ℕ) (p s v : ℕ) → p + length vs ≤ limit → set (put p vs w) (limit + s) v ≡ put p vs (take limit w) ++ set (drop limit w) s v
  put-set-ids vs p s v h =
      ap (λ (r : List ℕ). set (put p vs r) (limit + s) v) (sym halves)
      ∙ ap (λ (i : ℕ). set (put p vs (take limit w ++ drop limit w)) (i + s) v) (sym ids-length)
      ∙ put-set (take limit w) (drop limit w) vs p s v (omega (arith, ids-length))

  pub put-cleared-ids : (vs : List ℕ) (p s t n v : ℕ) → p + length vs ≤ limit
      → set (put (limit + t) (replicate n 0) (set (put p vs w) (limit + s) 0)) (limit + t) v
      ≡ put p vs (take limit w) ++ set (unrecorded (set (drop limit w) s 0) t n) t v
  put-cleared-ids vs p s t n v h =
      ap (λ (r : List ℕ). set (put (limit + t) (replicate n 0) (set (put p vs r) (limit + s) 0)) (limit + t) v) (sym halves)
      ∙ ap (λ (i : ℕ). set (put (i + t) (replicate n 0) (set (put p vs (take limit w ++ drop limit w)) (i + s) 0)) (i + t) v) (sym ids-length)
      ∙ put-cleared (take limit w) (drop limit w) vs p s t n v (omega (arith, ids-length))

-- ---- a block that a call may edit

module _ (w : List ℕ) (limit used s n : ℕ) (held : Held w limit used s n) where
  pub shaped-held : Shaped (arena_of limit used w)
  shaped-held =
      record {
        fits = omega (arith, held.fits, held.twice, ids-length w limit (omega (arith, held.twice)));
        paired = length-drop limit w ∙ omega (arith, held.twice, ids-length w limit (omega (arith, held.twice)));
      }

  pub inside-held : Inside (arena_of limit used w) (block s n)
  inside-held = record { below = held.inside }

  pub half : limit ≤ length w
  half = omega (arith, held.twice)

  pub held-len : s + n ≤ used
  held-len = omega (arith, held.inside, capacity-least (drop limit w) (block s n))

  pub held_fits : s + n ≤ limit
  held_fits = omega (arith, held-len, held.fits)

  pub block-ids : part s n w ≡ part s n (take limit w)
  block-ids = part-ids w limit half s n held_fits
