-- The promise of a removal, over the model, for any family of owners; and what an insertion takes after it.
-- Assumes nothing.
use mathlib.Core.Path.{◌≡◌, refl, sym, ◌∙◌}
use mathlib.Core.Bool.{cond}
use mathlib.Core.List.{List}
use Prim.Native.Nat.{ℕ, ◌-◌, ◌≤◌, ◌<◌}
use native.Mathlib.Decide.{ℕ_discrete, dec_lt}
use native.Mathlib.Omega.{arith}
use lib.ListN.{length, length-set}
use lib.Seq.{get_or-set_same, get_or-set_other}
use lib.Dec.{eqb}
use borrow.Author.Tests.{eq-eqb, ne_eqb}
use Rattle.words.specs.Parts.{put}
use Rattle.words.specs.Lists.{index_of, without}
use Rattle.words.proofs.Parts.{part-put-same, length-put}
use Rattle.blocks.specs.Arena.{Arena, Block, capacity_of, cap_of, list_of, takes, has_room, takes_after_removal, removed, dropped_from}
use Rattle.blocks.specs.Answer.{has_room_after_removal}
use Rattle.blocks.specs.Rule.{Inside, Apart, empty_left, empty_right, before, behind, Shaped, BlocksApart, Edited}
use Rattle.blocks.proofs.Capacities.{capacity-empty, capacity-some, capacity-least, capacity-same}
use Rattle.blocks.proofs.Edits.{takes_none, takes_moved, block-fits, removed-there, removed-absent, removed-used, removed-ids-length, without-length, without-none}
use Rattle.blocks.proofs.Apart.{OneEdit, edited, put-apart}

module _ (a : Arena) (b : Block) (sh : Shaped a) (inb : Inside a b) where
  module _ (id : ℕ) (there : index_of (eqb id) (list_of a b) < b.len) where
    abbrev dropped_caps : List ℕ
    dropped_caps = (dropped_from a b id).arena.caps

    left-length : length (without (eqb id) (list_of a b)) ≡ b.len - 1
    left-length = without-length a b sh inb id there

    -- what is left keeps the capacity, and the last id's going gives it up
    pub left-capacity : capacity_of dropped_caps (dropped_from a b id).block ≡ cond (eqb b.len 1) 0 (cap_of a b)
    left-capacity = go (ℕ_discrete b.len 1)
      where
        go : Dec (b.len ≡ 1) → capacity_of dropped_caps (dropped_from a b id).block ≡ cond (eqb b.len 1) 0 (cap_of a b)
        go (yes e) =
            let q : cond (eqb b.len 1) 0 (cap_of a b) ≡ 0 = rw (eq-eqb b.len 1 e) in
            capacity-empty dropped_caps (dropped_from a b id).block (omega (arith, left-length)) ∙ sym q
        go (no h) =
            let q : cond (eqb b.len 1) 0 (cap_of a b) ≡ cap_of a b = rw (ne_eqb b.len 1 h) in
            capacity-some dropped_caps (dropped_from a b id).block (λ z. omega (arith, left-length))
            ∙ omega (
              arith,
              get_or-set_same a.caps b.start (cond (eqb b.len 1) 0 (cap_of a b)) 0 (omega (arith, block-fits a b sh inb, sh.paired)),
              left-length,
              capacity-least a.caps b,
            )

    left_less : capacity_of dropped_caps (dropped_from a b id).block ≤ cap_of a b
    left_less = go (ℕ_discrete b.len 1)
      where
        go : Dec (b.len ≡ 1) → capacity_of dropped_caps (dropped_from a b id).block ≤ cap_of a b
        go (yes e) =
            let q : cond (eqb b.len 1) 0 (cap_of a b) ≡ 0 = rw (eq-eqb b.len 1 e) in
            omega (arith, left-capacity)
        go (no h) =
            let q : cond (eqb b.len 1) 0 (cap_of a b) ≡ cap_of a b = rw (ne_eqb b.len 1 h) in
            omega (arith, left-capacity)

    -- a block that lies apart keeps its capacity
    dropped-capacity : (c : Block) → Apart a b c → cap_of (dropped_from a b id).arena c ≡ cap_of a c
    dropped-capacity c p = go p (ℕ_discrete c.len 0)
      where
        elsewhere : (c.start ≡ b.start → ⊥) → cap_of (dropped_from a b id).arena c ≡ cap_of a c
        elsewhere h =
            capacity-same dropped_caps a.caps c
            (get_or-set_other a.caps b.start c.start (cond (eqb b.len 1) 0 (cap_of a b)) 0 h)

        go : Apart a b c → Dec (c.len ≡ 0) → cap_of (dropped_from a b id).arena c ≡ cap_of a c
        go q (yes z) = capacity-empty dropped_caps c z ∙ sym (capacity-empty a.caps c z)
        go (empty_left e) (no h) = absurd (omega arith)
        go (empty_right e) (no h) = absurd (h e)
        go (before e) (no h) = elsewhere (λ q. omega (arith, capacity-least a.caps b))
        go (behind e) (no h) = elsewhere (λ q. omega (arith, capacity-least a.caps c))

    left-apart : (c : Block) → Apart a b c → Apart (dropped_from a b id).arena (dropped_from a b id).block c
    left-apart c (empty_left e) = absurd (omega arith)
    left-apart c (empty_right e) = empty_right e
    left-apart c (before e) = before (omega (arith, left_less))
    left-apart c (behind e) = behind (omega (arith, dropped-capacity c (behind e)))

    dropped-edit : OneEdit a (dropped_from a b id).arena b (dropped_from a b id).block (without (eqb id) (list_of a b))
    dropped-edit =
        let m : length (put b.start (without (eqb id) (list_of a b)) a.ids) ≡ length a.ids =
        length-put a.ids b.start (without (eqb id) (list_of a b)) (omega (arith, left-length, block-fits a b sh inb)) in
        record {
          shaped = record { fits = omega (arith, sh.fits, m); paired = simp length-set (sh.paired ∙ sym m) };
          list = part-put-same a.ids b.start (without (eqb id) (list_of a b)) (omega (arith, block-fits a b sh inb));
          inside = record { below = omega (arith, left_less, inb.below) };
          grows = omega arith;
          limit = m;
          other = λ c ic p.
              record {
                same =
                    put-apart a b sh inb (without (eqb id) (list_of a b)) c (omega (arith, left-length, capacity-least a.caps b)) (λ e. omega arith) p;
                less = omega (arith, dropped-capacity c p);
                apart = left-apart c p;
              };
        }

  absent-edit : (id : ℕ) → b.len ≤ index_of (eqb id) (list_of a b) → OneEdit a a b b (without (eqb id) (list_of a b))
  absent-edit id h =
      record {
        shaped = sh;
        list = sym (without-none a b sh inb id h);
        inside = inb;
        grows = omega arith;
        limit = refl;
        other = λ c ic p. record { same = refl; less = omega arith; apart = p };
      }

  -- the block after a removal lies in the arena
  pub removed-inside : (id : ℕ) → Inside (removed a b id).arena (removed a b id).block
  removed-inside id = go (dec_lt (index_of (eqb id) (list_of a b)) b.len)
    where
      go : Dec (index_of (eqb id) (list_of a b) < b.len) → Inside (removed a b id).arena (removed a b id).block
      go (yes h) = rw (removed-there a b id h) (dropped-edit id h).inside
      go (no h) = rw (removed-absent a b id (omega arith)) inb

  -- ---- what an insertion takes after a removal: the Full test of a move within one block, made before it unlinks

  pub takes-removed : (id : ℕ) → index_of (eqb id) (list_of a b) < b.len → takes_after_removal a b id ≡ cond (eqb b.len 1) 4 0
  takes-removed id h = rw (removed-there a b id h) (go (ℕ_discrete b.len 1))
    where
      go : Dec (b.len ≡ 1) → takes (dropped_from a b id).arena (dropped_from a b id).block ≡ cond (eqb b.len 1) 4 0
      go (yes e) =
          let q : cond (eqb b.len 1) 0 (cap_of a b) ≡ 0 = rw (eq-eqb b.len 1 e) in
          let r : cond {A = ℕ} (eqb b.len 1) 4 0 ≡ 4 = rw (eq-eqb b.len 1 e) in
          takes_moved (dropped_from a b id).arena (dropped_from a b id).block (omega (arith, left-capacity id h)) ∙ omega (arith, left-length id h)
      go (no g) =
          let q : cond (eqb b.len 1) 0 (cap_of a b) ≡ cap_of a b = rw (ne_eqb b.len 1 g) in
          let r : cond {A = ℕ} (eqb b.len 1) 4 0 ≡ 0 = rw (ne_eqb b.len 1 g) in
          takes_none (dropped_from a b id).arena (dropped_from a b id).block (omega (arith, left-capacity id h, left-length id h, capacity-least a.caps b)) ∙ sym r

  -- and it is the room that the arena then has
  pub room-removed : (id : ℕ) → has_room (removed a b id).arena (removed a b id).block ≡ has_room_after_removal a b id
  unfolding has_room has_room_after_removal
  room-removed id = rw (removed-used a b id, removed-ids-length a b sh inb id)

  -- a block that lies apart keeps its capacity, so an insertion there takes what it took
  pub removed-capacity : (id : ℕ) (c : Block) → Apart a b c → cap_of (removed a b id).arena c ≡ cap_of a c
  removed-capacity id c p = go (dec_lt (index_of (eqb id) (list_of a b)) b.len)
    where
      go : Dec (index_of (eqb id) (list_of a b) < b.len) → cap_of (removed a b id).arena c ≡ cap_of a c
      go (yes h) = rw (removed-there a b id h) (dropped-capacity id h c p)
      go (no h) = rw (removed-absent a b id (omega arith))

  pub takes-other : (id : ℕ) (c : Block) → Apart a b c → takes (removed a b id).arena c ≡ takes a c
  unfolding takes
  takes-other id c p = rw (removed-capacity id c p)

  pub room-other : (id : ℕ) (c : Block) → Apart a b c → has_room (removed a b id).arena c ≡ has_room a c
  unfolding has_room
  room-other id c p = rw (takes-other id c p, removed-used a b id, removed-ids-length a b sh inb id)

-- ---- the promise

module _ (a : Arena) (B : ℕ → Block) (i : ℕ) (rule : BlocksApart a B) where
  -- a removal, whether the id is there or not
  pub remove-promise : (id : ℕ) → Edited a B i (without (eqb id) (list_of a (B i))) (removed a (B i) id).arena (removed a (B i) id).block
  remove-promise id = go (dec_lt (index_of (eqb id) (list_of a (B i))) (B i).len)
    where
      go : Dec (index_of (eqb id) (list_of a (B i)) < (B i).len) → Edited a B i (without (eqb id) (list_of a (B i))) (removed a (B i) id).arena (removed a (B i) id).block
      go (yes h) =
          rw (removed-there a (B i) id h)
          (edited a B i (dropped_from a (B i) id).arena (dropped_from a (B i) id).block (without (eqb id) (list_of a (B i))) rule
          (dropped-edit a (B i) rule.shaped (rule.inside i) id h))
      go (no h) =
          rw (removed-absent a (B i) id (omega arith))
          (edited a B i a (B i) (without (eqb id) (list_of a (B i))) rule
          (absent-edit a (B i) rule.shaped (rule.inside i) id (omega arith)))
