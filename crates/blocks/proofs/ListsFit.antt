-- Compaction always fits: blocks that lie inside and apart hold no more ids than entries are in use.
-- Assumes nothing.
use mathlib.Core.Path.{◌≡◌, sym, ap, ◌∙◌}
use mathlib.Core.Bool.{true}
use mathlib.Core.List.{List, [], ◌∷◌, ◌++◌, map}
use Prim.Native.Nat.{ℕ, zero, suc, ◌+◌, ◌≤◌, ◌<◌}
use native.Mathlib.Numerals.{add-one}
use native.Mathlib.Omega.{arith}
use lib.ListN.{length, get_or, drop, take, replicate, length-replicate}
use lib.Dec.{eqb}
use Rattle.words.specs.Parts.{part, put}
use Rattle.words.specs.Lists.{all, count_of, sum, tabulate}
use Rattle.words.proofs.Parts.{length_part, put_same}
use Rattle.words.proofs.Lists.{count_of-append}
use Rattle.blocks.specs.Arena.{Arena, Block, block, cap_of, list_of}
use Rattle.blocks.specs.Rule.{BlocksApart}
use Rattle.blocks.specs.Claims.{ApartBefore, block_claimable, block_claimed, Marked}
use Rattle.blocks.specs.Compact.{cleared, lay_owners, lengths, Laid}
use Rattle.blocks.proofs.Lists.{map_same, all-count, count-replicate, sum-append, map-tabulate, tabulate-get_or, twice_there}
use Rattle.blocks.proofs.Capacities.{capacity-least}
use Rattle.blocks.proofs.Claims.{marked-none, marked_more, claim-apart}
use Rattle.blocks.proofs.Edits.{list_length}
use Rattle.blocks.proofs.Laid.{cleared-none, cleared-apart, lay-owners}
use Rattle.blocks.proofs.Claimable.{claimable-fits, claimable-clear, claimed-met}

-- the claims of n blocks leave so many entries unclaimed
record Claimed (a : Arena) (B : ℕ → Block) (n : ℕ) : Type 0 where
  marks : List ℕ
  marked : Marked a B n marks
  unclaimed : count_of (eqb 0) marks + sum (tabulate (λ (k : ℕ). cap_of a (B k)) n) ≡ a.used

count-put : (m vs : List ℕ) (s n : ℕ) → length vs ≡ n → count_of (eqb 0) (put s vs m) ≡ count_of (eqb 0) (take s m) + (count_of (eqb 0) vs + count_of (eqb 0) (drop (s + n) m))
unfolding put
count-put m vs s n e =
    count_of-append (eqb 0) (take s m) (vs ++ drop (s + length vs) m)
    ∙ rw (count_of-append (eqb 0) vs (drop (s + length vs) m), e)

-- n entries that were unclaimed are claimed
count-claimed : (m : List ℕ) (s n : ℕ) → s + n ≤ length m → all (eqb 0) (part s n m) ≡ true → count_of (eqb 0) (put s (replicate n 1) m) + n ≡ count_of (eqb 0) m
count-claimed m s n h e =
    let lp : length (part s n m) ≡ n = length_part m s n h in
    let whole : count_of (eqb 0) (put s (part s n m) m) ≡ count_of (eqb 0) m = ap (count_of (eqb 0)) (put_same m s n h) in
    let ones : count_of (eqb 0) (replicate n 1) ≡ 0 = count-replicate 0 1 n in
    omega (
      arith,
      count-put m (part s n m) s n lp,
      count-put m (replicate n 1) s n (length-replicate n 1),
      all-count (eqb 0) (part s n m) e,
    )

claims : (a : Arena) (B : ℕ → Block) (n : ℕ) → ((k : ℕ) → k < n → ApartBefore a B k) → Claimed a B n
claims a B zero f =
    record {
      marks = replicate a.used 0;
      marked = marked-none a B;
      unclaimed = omega (arith, count-replicate 0 0 a.used);
    }
claims a B (suc n) f = next (claims a B n (λ k h. f k (omega arith)))
  where
    next : Claimed a B n → Claimed a B (suc n)
    next c =
        let e : block_claimable a c.marks (B n) ≡ true = claim-apart a B n c.marks c.marked (f n (omega arith)) in
        record {
          marks = block_claimed a c.marks (B n);
          marked = rw add-one at (marked_more a B n c.marks c.marked e);
          unclaimed =
              rw (claimed-met c.marks (B n).start (cap_of a (B n)) e)
              (omega (
                arith,
                count-claimed c.marks (B n).start (cap_of a (B n)) (claimable-fits c.marks (B n).start (cap_of a (B n)) e)
                    (claimable-clear c.marks (B n).start (cap_of a (B n)) e),
                sum-append (tabulate (λ (k : ℕ). cap_of a (B k)) n) (cap_of a (B n) ∷ []),
                c.unclaimed,
              ));
        }

pub capacities-fit : (a : Arena) (B : ℕ → Block) (n : ℕ) → ((k : ℕ) → k < n → ApartBefore a B k) → sum (tabulate (λ (k : ℕ). cap_of a (B k)) n) ≤ a.used
capacities-fit a B n f = omega (arith, (claims a B n f).unclaimed)

sum_less : (f g : ℕ → ℕ) (n : ℕ) → ((k : ℕ) → f k ≤ g k) → sum (tabulate f n) ≤ sum (tabulate g n)
sum_less f g zero h = omega arith
sum_less f g (suc n) h =
    omega (arith, sum-append (tabulate f n) (f n ∷ []), sum-append (tabulate g n) (g n ∷ []), sum_less f g n h, h n)

-- the owners of an order without repetition
pub lists-fit : (a : Arena) (B : ℕ → Block) (order : List ℕ) → BlocksApart a B → ((x : ℕ) → count_of (eqb x) order ≤ 1) → sum (map (λ (i : ℕ). (B i).len) order) ≤ a.used
lists-fit a B order rule once =
    omega (
      arith,
      ap sum table,
      sum_less (λ (k : ℕ). (B (owner k)).len) (λ (k : ℕ). cap_of a (B (owner k))) (length order) (λ k. capacity-least a.caps (B (owner k))),
      capacities-fit a (λ (k : ℕ). B (owner k)) (length order) fits,
    )
  where
    owner : ℕ → ℕ
    owner k = get_or order k 0

    table : map (λ (i : ℕ). (B i).len) order ≡ tabulate (λ (k : ℕ). (B (owner k)).len) (length order)
    table =
        ap (map (λ (i : ℕ). (B i).len)) (sym (tabulate-get_or order 0))
        ∙ map-tabulate (λ (i : ℕ). (B i).len) (λ (k : ℕ). get_or order k 0) (length order)

    fits : (k : ℕ) → k < length order → ApartBefore a (λ (k : ℕ). B (owner k)) k
    fits k h =
        record {
          inside = rule.inside (owner k);
          apart = λ i l.
              rule.apart (owner i) (owner k) (λ e. omega (arith, once (owner k), twice_there order i k l h e));
        }

-- in the terms of what is laid
pub lengths-fit : (a : Arena) (B : ℕ → Block) (order : List ℕ) → BlocksApart a B → ((x : ℕ) → count_of (eqb x) order ≤ 1) → lengths (λ (i : ℕ). list_of a (B i)) order ≤ a.used
lengths-fit a B order rule once =
    omega (arith, lists-fit a B order rule once, ap sum (map_same (λ (i : ℕ). length (list_of a (B i))) (λ (i : ℕ). (B i).len) order (λ i. list_length a (B i) rule.shaped (rule.inside i))))

-- so compaction keeps every list of an order without repetition, whatever stood in the arena besides
pub compact-promise : (a : Arena) (B : ℕ → Block) (order : List ℕ) → BlocksApart a B → ((x : ℕ) → count_of (eqb x) order ≤ 1)
    → Laid (λ (i : ℕ). list_of a (B i)) (record { arena = cleared a; blocks = λ (i : ℕ). block 0 0 })
    (lay_owners (λ (i : ℕ). list_of a (B i)) (record { arena = cleared a; blocks = λ (i : ℕ). block 0 0 }) order) order
compact-promise a B order rule once =
    lay-owners (λ (i : ℕ). list_of a (B i)) (record { arena = cleared a; blocks = λ (i : ℕ). block 0 0 }) order (cleared-apart a) (cleared-none a)
    (omega (arith, lengths-fit a B order rule once, rule.shaped.fits))
