-- What each edit is, way by way, and its components.
-- Assumes nothing.
use mathlib.Core.Path.{◌≡◌, refl, sym, ap, ◌∙◌}
use mathlib.Core.Bool.{Bool, true, false, cond}
use mathlib.Core.List.{[], ◌∷◌, ◌++◌}
use Prim.Native.Nat.{ℕ, ◌+◌, ◌-◌, ◌≤◌, ◌<◌}
use native.Mathlib.Decide.{dec_lt}
use native.Mathlib.Omega.{arith}
use lib.ListN.{length, set, replicate, length-set, length-replicate}
use lib.Dec.{eqb, ltb}
use borrow.Author.Tests.{lt-ltb, le-ltb, le-leb, lt-leb, leb-true, leb-false}
use Rattle.words.specs.Lists.{insert_at, index_of, without}
use Rattle.words.proofs.Parts.{length_part, length-put}
use Rattle.words.proofs.Lists.{length-insert_at, insert_at-end, length-remove_at, without-remove_at, without-absent}
use Rattle.blocks.specs.Arena.{Arena, Block, Edit, cap_of, list_of, takes, has_room, moved_capacity, unrecorded, inserted, inserted_in_place, inserted_moved, removed, dropped_from}
use Rattle.blocks.specs.Rule.{Inside, Shaped}
use Rattle.blocks.proofs.Capacities.{capacity-least}

-- ---- insertion

module _ (a : Arena) (b : Block) where
  pub takes_none : b.len < cap_of a b → takes a b ≡ 0
  unfolding takes
  takes_none h = rw (lt-ltb b.len (cap_of a b) h)

  pub takes_moved : cap_of a b ≤ b.len → takes a b ≡ moved_capacity b.len
  unfolding takes
  takes_moved h = rw (le-ltb b.len (cap_of a b) h)

  -- there is room exactly when what is taken fits
  pub room-when : a.used + takes a b ≤ length a.ids → has_room a b ≡ true
  unfolding has_room
  room-when h = le-leb (a.used + takes a b) (length a.ids) h

  pub no-room-when : length a.ids < a.used + takes a b → has_room a b ≡ false
  unfolding has_room
  no-room-when h = lt-leb (a.used + takes a b) (length a.ids) h

  pub room-then : has_room a b ≡ true → a.used + takes a b ≤ length a.ids
  unfolding has_room
  room-then h = leb-true (a.used + takes a b) (length a.ids) h

  pub no-room-then : has_room a b ≡ false → length a.ids < a.used + takes a b
  unfolding has_room
  no-room-then h = leb-false (a.used + takes a b) (length a.ids) h

  module _ (k id : ℕ) where
    pub inserted-in-place : b.len < cap_of a b → inserted a b k id ≡ inserted_in_place a b k id
    unfolding inserted
    inserted-in-place h = rw (lt-ltb b.len (cap_of a b) h)

    pub inserted-moved : cap_of a b ≤ b.len → inserted a b k id ≡ inserted_moved a b k id
    unfolding inserted
    inserted-moved h = rw (le-ltb b.len (cap_of a b) h)

    pub inserted-len : (inserted a b k id).block.len ≡ b.len + 1
    inserted-len = go (dec_lt b.len (cap_of a b))
      where
        go : Dec (b.len < cap_of a b) → (inserted a b k id).block.len ≡ b.len + 1
        go (yes h) = rw (inserted-in-place h)
        go (no h) = rw (inserted-moved (omega arith))

    pub inserted-used : (inserted a b k id).arena.used ≡ a.used + takes a b
    inserted-used = go (dec_lt b.len (cap_of a b))
      where
        go : Dec (b.len < cap_of a b) → (inserted a b k id).arena.used ≡ a.used + takes a b
        go (yes h) = rw (inserted-in-place h) (omega (arith, takes_none h))
        go (no h) = rw (inserted-moved (omega arith)) (omega (arith, takes_moved (omega arith)))

-- ---- a block that lies in the arena

module _ (a : Arena) (b : Block) (sh : Shaped a) (inb : Inside a b) where
  pub block-fits : b.start + b.len ≤ length a.ids
  block-fits = omega (arith, inb.below, sh.fits, capacity-least a.caps b)

  pub list_length : length (list_of a b) ≡ b.len
  list_length = length_part a.ids b.start b.len block-fits

  pub insert_at-length : (k id : ℕ) → length (insert_at k id (list_of a b)) ≡ b.len + 1
  insert_at-length k id = length-insert_at k id (list_of a b) ∙ ap (λ (n : ℕ). n + 1) list_length

  -- "Append" is an insertion at the length
  pub appended-list : (id : ℕ) → insert_at b.len id (list_of a b) ≡ list_of a b ++ (id ∷ [])
  appended-list id = ap (λ (n : ℕ). insert_at n id (list_of a b)) (sym list_length) ∙ insert_at-end id (list_of a b)

  pub inserted-ids-length : (k id : ℕ) → has_room a b ≡ true → length (inserted a b k id).arena.ids ≡ length a.ids
  inserted-ids-length k id r = go (dec_lt b.len (cap_of a b))
    where
      go : Dec (b.len < cap_of a b) → length (inserted a b k id).arena.ids ≡ length a.ids
      go (yes h) =
          rw (inserted-in-place a b k id h)
          (length-put a.ids b.start (insert_at k id (list_of a b)) (omega (arith, insert_at-length k id, inb.below, sh.fits)))
      go (no h) =
          rw (inserted-moved a b k id (omega arith))
          (length-put a.ids a.used (insert_at k id (list_of a b)) (omega (arith, insert_at-length k id, room-then a b r, takes_moved a b (omega arith))))

  -- the records of the entries that come into use are all within the arena
  pub unrecorded-length : a.used + moved_capacity b.len ≤ length a.ids
      → length (unrecorded (set a.caps b.start 0) a.used (moved_capacity b.len)) ≡ length a.caps
  unrecorded-length f =
      length-put (set a.caps b.start 0) a.used (replicate (moved_capacity b.len) 0)
      (omega (arith, length-set a.caps b.start 0, length-replicate {A = ℕ} (moved_capacity b.len) 0, sh.paired))
      ∙ length-set a.caps b.start 0

  pub inserted-caps-length : (k id : ℕ) → has_room a b ≡ true → length (inserted a b k id).arena.caps ≡ length a.caps
  inserted-caps-length k id r = go (dec_lt b.len (cap_of a b))
    where
      go : Dec (b.len < cap_of a b) → length (inserted a b k id).arena.caps ≡ length a.caps
      go (yes h) = rw (inserted-in-place a b k id h)
      go (no h) =
          rw (inserted-moved a b k id (omega arith))
          (length-set (unrecorded (set a.caps b.start 0) a.used (moved_capacity b.len)) a.used (moved_capacity b.len)
          ∙ unrecorded-length (omega (arith, room-then a b r, takes_moved a b (omega arith))))

-- ---- removal

module _ (a : Arena) (b : Block) (id : ℕ) where
  pub removed-there : index_of (eqb id) (list_of a b) < b.len → removed a b id ≡ dropped_from a b id
  unfolding removed
  removed-there h = rw (lt-ltb (index_of (eqb id) (list_of a b)) b.len h)

  pub removed-absent : b.len ≤ index_of (eqb id) (list_of a b) → removed a b id ≡ record { arena = a; block = b }
  unfolding removed
  removed-absent h = rw (le-ltb (index_of (eqb id) (list_of a b)) b.len h)

  -- what every removal leaves as it was
  kept : {A : Type 0} (f : Edit → A) → f (dropped_from a b id) ≡ f (record { arena = a; block = b }) → f (removed a b id) ≡ f (record { arena = a; block = b })
  unfolding removed
  kept f e = go (ltb (index_of (eqb id) (list_of a b)) b.len)
    where
      go : (t : Bool) → f (cond t (dropped_from a b id) (record { arena = a; block = b })) ≡ f (record { arena = a; block = b })
      go true = e
      go false = refl

  pub removed-used : (removed a b id).arena.used ≡ a.used
  removed-used = kept (λ (e : Edit). e.arena.used) refl

  pub removed-start : (removed a b id).block.start ≡ b.start
  removed-start = kept (λ (e : Edit). e.block.start) refl

  pub removed-caps-length : length (removed a b id).arena.caps ≡ length a.caps
  removed-caps-length = kept (λ (e : Edit). length e.arena.caps) (simp length-set)

module _ (a : Arena) (b : Block) (sh : Shaped a) (inb : Inside a b) (id : ℕ) where
  pub without-length : index_of (eqb id) (list_of a b) < b.len → length (without (eqb id) (list_of a b)) ≡ b.len - 1
  without-length h =
      ap length (without-remove_at (eqb id) (list_of a b))
      ∙ length-remove_at (index_of (eqb id) (list_of a b)) (list_of a b) (omega (arith, list_length a b sh inb))
      ∙ ap (λ (n : ℕ). n - 1) (list_length a b sh inb)

  pub without-none : b.len ≤ index_of (eqb id) (list_of a b) → without (eqb id) (list_of a b) ≡ list_of a b
  without-none h = without-absent (eqb id) (list_of a b) (omega (arith, list_length a b sh inb))

  pub removed-len : (removed a b id).block.len ≡ length (without (eqb id) (list_of a b))
  removed-len = go (dec_lt (index_of (eqb id) (list_of a b)) b.len)
    where
      go : Dec (index_of (eqb id) (list_of a b) < b.len) → (removed a b id).block.len ≡ length (without (eqb id) (list_of a b))
      go (yes h) = rw (removed-there a b id h)
      go (no h) = rw (removed-absent a b id (omega arith)) (sym (ap length (without-none (omega arith)) ∙ list_length a b sh inb))

  pub removed-ids-length : length (removed a b id).arena.ids ≡ length a.ids
  removed-ids-length = go (dec_lt (index_of (eqb id) (list_of a b)) b.len)
    where
      go : Dec (index_of (eqb id) (list_of a b) < b.len) → length (removed a b id).arena.ids ≡ length a.ids
      go (yes h) =
          rw (removed-there a b id h)
          (length-put a.ids b.start (without (eqb id) (list_of a b)) (omega (arith, without-length h, block-fits a b sh inb)))
      go (no h) = rw (removed-absent a b id (omega arith))
