-- What the code of a removal reads and stores is what the model says.
-- Assumes nothing.
use mathlib.Core.Path.{◌≡◌, refl, sym, ap, ◌∙◌}
use mathlib.Core.Bool.{Bool, true, false, cond}
use mathlib.Core.List.{List, ◌++◌}
use Prim.Native.Nat.{ℕ, ◌+◌, ◌-◌, ◌≤◌, ◌<◌}
use native.Mathlib.Omega.{arith}
use lib.ListN.{length, set, take, drop, take-append-drop}
use lib.Dec.{eqb, leb}
use borrow.Author.Tests.{eq-eqb, ne_eqb, le-leb, lt-leb, leb-true, leb-false}
use Rattle.words.specs.Parts.{part, put}
use Rattle.words.specs.Lists.{index_of, remove_at, without}
use Rattle.words.proofs.Lists.{without-remove_at}
use Rattle.words.proofs.Parts.{length_part}
use Rattle.std.specs.Prelude.{Some, None, position}
use Rattle.words.proofs.Searches.{position-some, position-none}
use Rattle.blocks.specs.Arena.{block, Edit, arena_of, arena_words, capacity_of, has_room, removed, dropped_from}
use Rattle.blocks.specs.Answer.{has_room_after_removal}
use Rattle.blocks.specs.Rule.{Inside, Shaped}
use Rattle.blocks.specs.Held.{Held}
use Rattle.blocks.proofs.Edits.{removed-there, removed-absent, without-length}
use Rattle.blocks.proofs.Halves.{ids-length, put-set-ids, shaped-held, inside-held, half, held_fits, block-ids}
use Rattle.blocks.proofs.Removal.{takes-removed}

-- ---- where the id stands in the block

module _ (w : List ℕ) (limit used s n : ℕ) (held : Held w limit used s n) (id : ℕ) where
  size : length (part s n w) ≡ n
  size = length_part w s n (omega (arith, held_fits w limit used s n held, held.twice))

  pub index-there : (at : ℕ) → position (eqb id) (part s n w) ≡ Some at → (at ≡ index_of (eqb id) (part s n w)) × (at < n)
  index-there at e =
      let i = position-some (eqb id) (part s n w) at e in
      (sym i.1, omega (arith, i.0, size))

  pub index-absent : position (eqb id) (part s n w) ≡ None → n ≤ index_of (eqb id) (part s n w)
  index-absent e = omega (arith, position-none (eqb id) (part s n w) e, size)

-- ---- removal, whatever the length in use

pub stored-record : (l m : List ℕ) (i v : ℕ) → l ≡ m → set l i v ≡ set m i v
stored-record l m i v e = rw e

module _ (w : List ℕ) (limit s n : ℕ) (held : Held w limit limit s n) (id : ℕ) where
  abbrev pub Removes : ℕ → List ℕ → Type 0
  Removes r w' =
      ((used : ℕ) → r ≡ (removed (arena_of limit used w) (block s n) id).block.len)
      × ((used : ℕ) → w' ≡ arena_words (removed (arena_of limit used w) (block s n) id).arena)

  -- where the id stands in the block
  stands : index_of (eqb id) (part s n w) ≡ index_of (eqb id) (part s n (take limit w))
  stands = ap (index_of (eqb id)) (block-ids w limit limit s n held)

  pub removes-absent : (at : ℕ) → at ≡ index_of (eqb id) (part s n w) → n ≤ at → Removes n w
  removes-absent at e h = (
    λ used. sym (ap (λ (x : Edit). x.block.len) (none used)),
    λ used. sym (take-append-drop limit w) ∙ sym (ap (λ (x : Edit). arena_words x.arena) (none used)),
  )
    where
      none : (used : ℕ) → removed (arena_of limit used w) (block s n) id ≡ record { arena = arena_of limit used w; block = block s n }
      none used = removed-absent (arena_of limit used w) (block s n) id (omega (arith, stands))

  pub removes-there : (at cap : ℕ) (w' : List ℕ) → at ≡ index_of (eqb id) (part s n w) → at < n → cap ≡ cond (eqb n 1) 0 (capacity_of (drop limit w) (block s n))
      → w' ≡ set (put s (remove_at at (part s n w)) w) (limit + s) cap → Removes (n - 1) w'
  removes-there at cap w' e h c q = (
    λ used. sym (ap (λ (x : Edit). x.block.len) (there used) ∙ left-length),
    λ used.
        q ∙ stored ∙ sym (ap (λ (x : Edit). arena_words x.arena) (there used)),
  )
    where
      sh : Shaped (arena_of limit limit w)
      sh = shaped-held w limit limit s n held

      inb : Inside (arena_of limit limit w) (block s n)
      inb = inside-held w limit limit s n held

      l : List ℕ
      l = part s n (take limit w)

      there : (used : ℕ) → removed (arena_of limit used w) (block s n) id ≡ dropped_from (arena_of limit used w) (block s n) id
      there used = removed-there (arena_of limit used w) (block s n) id (omega (arith, stands))

      left-length : length (without (eqb id) (part s n (take limit w))) ≡ n - 1
      left-length = without-length (arena_of limit limit w) (block s n) sh inb id (omega (arith, stands))

      taken : remove_at at (part s n w) ≡ without (eqb id) (part s n (take limit w))
      taken =
          ap (remove_at at) (block-ids w limit limit s n held)
          ∙ ap (λ (i : ℕ). remove_at i (part s n (take limit w))) (e ∙ stands)
          ∙ sym (without-remove_at (eqb id) (part s n (take limit w)))

      stored : set (put s (remove_at at (part s n w)) w) (limit + s) cap
          ≡ put s (without (eqb id) (part s n (take limit w))) (take limit w) ++ set (drop limit w) s (cond (eqb n 1) 0 (capacity_of (drop limit w) (block s n)))
      stored =
          ap (λ (r : List ℕ). set (put s r w) (limit + s) cap) taken
          ∙ ap (set (put s (without (eqb id) (part s n (take limit w))) w) (limit + s)) c
          ∙ put-set-ids w limit (half w limit limit s n held) (without (eqb id) (part s n (take limit w))) s s (cond (eqb n 1) 0 (capacity_of (drop limit w) (block s n)))
          (omega (arith, left-length, held_fits w limit limit s n held))

-- ---- the room that an insertion has after the removal

module _ (w : List ℕ) (limit used s n : ℕ) (held : Held w limit used s n) (id at : ℕ) (e : at ≡ index_of (eqb id) (part s n w)) where
  index : at ≡ index_of (eqb id) (part s n (take limit w))
  index = e ∙ ap (index_of (eqb id)) (block-ids w limit used s n held)

  pub room-after-absent : (t : Bool) → n ≤ at → t ≡ has_room (arena_of limit used w) (block s n) → t ≡ has_room_after_removal (arena_of limit used w) (block s n) id
  unfolding has_room has_room_after_removal
  room-after-absent t h q = rw (removed-absent (arena_of limit used w) (block s n) id (omega (arith, index))) q

  -- by what an insertion then takes
  room_by : (more : ℕ) → at < n → cond {A = ℕ} (eqb n 1) 4 0 ≡ more → leb more (limit - used) ≡ has_room_after_removal (arena_of limit used w) (block s n) id
  unfolding has_room_after_removal
  room_by more h q =
      rw (takes-removed (arena_of limit used w) (block s n) (shaped-held w limit used s n held) (inside-held w limit used s n held) id (omega (arith, index)), q)
      (go (leb more (limit - used)) refl)
    where
      size : length (take limit w) ≡ limit
      size = ids-length w limit (half w limit used s n held)

      go : (t : Bool) → leb more (limit - used) ≡ t → t ≡ leb (used + more) (length (take limit w))
      go true r = sym (le-leb (used + more) (length (take limit w)) (omega (arith, size, leb-true more (limit - used) r, held.fits)))
      go false r = sym (lt-leb (used + more) (length (take limit w)) (omega (arith, size, leb-false more (limit - used) r, held.fits)))

  pub room-after-only : at < n → n ≤ 1 → leb 4 (limit - used) ≡ has_room_after_removal (arena_of limit used w) (block s n) id
  room-after-only h o = room_by 4 h (rw (eq-eqb n 1 (omega arith)))

  pub room-after-some : at < n → 1 < n → true ≡ has_room_after_removal (arena_of limit used w) (block s n) id
  room-after-some h o = sym (le-leb 0 (limit - used) (omega arith)) ∙ room_by 0 h (rw (ne_eqb n 1 (λ q. omega arith)))
