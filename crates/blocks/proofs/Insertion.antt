-- The promise of an insertion, over the model, for any family of owners.
-- Assumes nothing.
use mathlib.Core.Path.{◌≡◌, sym, ap, ◌∙◌}
use mathlib.Core.Bool.{true}
use mathlib.Core.List.{List}
use Prim.Native.Nat.{ℕ, ◌+◌, ◌≤◌, ◌<◌}
use native.Mathlib.Decide.{ℕ_discrete, dec_lt}
use native.Mathlib.Omega.{arith}
use lib.ListN.{length, get_or, set, replicate, length-set}
use lib.Seq.{get_or-set_same, get_or-set_other, set_out}
use Rattle.words.specs.Parts.{part, put}
use Rattle.words.specs.Lists.{insert_at}
use Rattle.words.proofs.Parts.{part-put-same, part-put-before, get_or-put-before, length-put}
use Rattle.blocks.specs.Arena.{Arena, Block, block, capacity_of, cap_of, list_of, has_room, moved_capacity, unrecorded, inserted, inserted_in_place, inserted_moved}
use Rattle.blocks.specs.Rule.{Inside, Apart, empty_left, empty_right, before, behind, Shaped, BlocksApart, Edited}
use Rattle.blocks.proofs.Capacities.{capacity-empty, capacity-some, capacity-least, spare-some, capacity-grown, capacity-less}
use Rattle.blocks.proofs.Edits.{takes_moved, room-then, inserted-in-place, inserted-moved, block-fits, unrecorded-length, insert_at-length}
use Rattle.blocks.proofs.Apart.{OneEdit, edited, put-apart}

module _ (a : Arena) (b : Block) (sh : Shaped a) (inb : Inside a b) where
  module _ (k id : ℕ) where
    -- the list put where a block of its length then is
    put-list : (s : ℕ) → s ≤ length a.ids → part s (b.len + 1) (put s (insert_at k id (list_of a b)) a.ids) ≡ insert_at k id (list_of a b)
    put-list s h =
        ap (λ (n : ℕ). part s n (put s (insert_at k id (list_of a b)) a.ids)) (sym (insert_at-length a b sh inb k id))
        ∙ part-put-same a.ids s (insert_at k id (list_of a b)) h

    module _ (spare : b.len < cap_of a b) where
      grown : capacity_of a.caps (block b.start (b.len + 1)) ≡ cap_of a b
      grown = capacity-grown a.caps b.start b.len spare

      still-apart : (c : Block) → Apart a b c → Apart (inserted_in_place a b k id).arena (block b.start (b.len + 1)) c
      still-apart c (empty_left e) = absurd (spare-some a.caps b spare e)
      still-apart c (empty_right e) = empty_right e
      still-apart c (before e) = before (omega (arith, grown))
      still-apart c (behind e) = behind e

      in-place-edit : OneEdit a (inserted_in_place a b k id).arena b (block b.start (b.len + 1)) (insert_at k id (list_of a b))
      in-place-edit =
          let n : length (insert_at k id (list_of a b)) ≡ b.len + 1 = insert_at-length a b sh inb k id in
          let m : length (put b.start (insert_at k id (list_of a b)) a.ids) ≡ length a.ids =
          length-put a.ids b.start (insert_at k id (list_of a b)) (omega (arith, inb.below, sh.fits)) in
          record {
            shaped = record { fits = omega (arith, sh.fits); paired = sh.paired ∙ sym m };
            list = put-list b.start (omega (arith, block-fits a b sh inb));
            inside = record { below = omega (arith, grown, inb.below) };
            grows = omega arith;
            limit = m;
            other = λ c ic p.
                record {
                  same = put-apart a b sh inb (insert_at k id (list_of a b)) c (omega arith) (spare-some a.caps b spare) p;
                  less = omega arith;
                  apart = still-apart c p;
                };
          }

    module _ (fit : a.used + moved_capacity b.len ≤ length a.ids) where
      abbrev moved_caps : List ℕ
      moved_caps = (inserted_moved a b k id).arena.caps

      abbrev fresh : List ℕ
      fresh = unrecorded (set a.caps b.start 0) a.used (moved_capacity b.len)

      new-capacity : capacity_of moved_caps (block a.used (b.len + 1)) ≡ moved_capacity b.len
      new-capacity =
          capacity-some moved_caps (block a.used (b.len + 1)) (λ e. omega arith)
          ∙ omega (arith, get_or-set_same fresh a.used (moved_capacity b.len) 0 (omega (arith, unrecorded-length a b sh inb fit, sh.paired)))

      -- the record at the old start is erased, whosever it is: no record grows
      erased : (s : ℕ) → get_or (set a.caps b.start 0) s 0 ≤ get_or a.caps s 0
      erased s = go (ℕ_discrete s b.start) (dec_lt b.start (length a.caps))
        where
          go : Dec (s ≡ b.start) → Dec (b.start < length a.caps) → get_or (set a.caps b.start 0) s 0 ≤ get_or a.caps s 0
          go (yes e) (yes l) = rw e (omega (arith, get_or-set_same a.caps b.start 0 0 l))
          go (yes e) (no l) = rw (set_out a.caps b.start 0 (omega arith)) (omega arith)
          go (no h) d = omega (arith, get_or-set_other a.caps b.start s 0 0 h)

      moved-less : (c : Block) → Inside a c → cap_of (inserted_moved a b k id).arena c ≤ cap_of a c
      moved-less c ic = go (ℕ_discrete c.len 0)
        where
          go : Dec (c.len ≡ 0) → cap_of (inserted_moved a b k id).arena c ≤ cap_of a c
          go (yes e) = omega (arith, capacity-empty moved_caps c e)
          go (no h) =
              capacity-less moved_caps a.caps c
              (omega (
                arith,
                erased c.start,
                get_or-put-before (set a.caps b.start 0) a.used (replicate (moved_capacity b.len) 0) c.start 0
                    (omega (arith, ic.below, capacity-least a.caps c)) (simp length-set (omega (arith, sh.paired))),
                get_or-set_other fresh a.used c.start (moved_capacity b.len) 0 (λ e. omega (arith, ic.below, capacity-least a.caps c)),
              ))

      moved-edit : OneEdit a (inserted_moved a b k id).arena b (block a.used (b.len + 1)) (insert_at k id (list_of a b))
      moved-edit =
          let n : length (insert_at k id (list_of a b)) ≡ b.len + 1 = insert_at-length a b sh inb k id in
          let m : length (put a.used (insert_at k id (list_of a b)) a.ids) ≡ length a.ids =
          length-put a.ids a.used (insert_at k id (list_of a b)) (omega arith) in
          record {
            shaped = record {
              fits = omega arith;
              paired = length-set fresh a.used (moved_capacity b.len) ∙ unrecorded-length a b sh inb fit ∙ sh.paired ∙ sym m;
            };
            list = put-list a.used sh.fits;
            inside = record { below = omega (arith, new-capacity) };
            grows = omega arith;
            limit = m;
            other = λ c ic p.
                record {
                  same =
                      part-put-before a.ids a.used (insert_at k id (list_of a b)) c.start c.len
                      (omega (arith, ic.below, capacity-least a.caps c)) sh.fits;
                  less = moved-less c ic;
                  apart = behind (omega (arith, ic.below, moved-less c ic));
                };
          }

-- ---- the promise

module _ (a : Arena) (B : ℕ → Block) (i : ℕ) (rule : BlocksApart a B) where
  -- an insertion for which there is room
  pub insert-promise : (k id : ℕ) → has_room a (B i) ≡ true → Edited a B i (insert_at k id (list_of a (B i))) (inserted a (B i) k id).arena (inserted a (B i) k id).block
  insert-promise k id r = go (dec_lt (B i).len (cap_of a (B i)))
    where
      go : Dec ((B i).len < cap_of a (B i)) → Edited a B i (insert_at k id (list_of a (B i))) (inserted a (B i) k id).arena (inserted a (B i) k id).block
      go (yes h) =
          rw (inserted-in-place a (B i) k id h)
          (edited a B i (inserted_in_place a (B i) k id).arena (block (B i).start ((B i).len + 1)) (insert_at k id (list_of a (B i))) rule
          (in-place-edit a (B i) rule.shaped (rule.inside i) k id h))
      go (no h) =
          rw (inserted-moved a (B i) k id (omega arith))
          (edited a B i (inserted_moved a (B i) k id).arena (block a.used ((B i).len + 1)) (insert_at k id (list_of a (B i))) rule
          (moved-edit a (B i) rule.shaped (rule.inside i) k id (omega (arith, room-then a (B i) r, takes_moved a (B i) (omega arith)))))
