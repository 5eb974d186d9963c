-- The claims of all blocks are met exactly when rule 5 holds.
-- Assumes nothing.
use mathlib.Core.Path.{◌≡◌}
use mathlib.Core.Bool.{true}
use Prim.Native.Nat.{ℕ, zero, suc, ◌≤◌, ◌<◌}
use native.Mathlib.Decide.{dec_lt}
use native.Mathlib.Numerals.{add-one}
use native.Mathlib.Omega.{arith}
use Rattle.words.proofs.Lists.{all_below-at, at-all_below}
use Rattle.blocks.specs.Arena.{Arena, Block}
use Rattle.blocks.specs.Rule.{Shaped, BlocksApart}
use Rattle.blocks.specs.Claims.{ApartBefore, block_claimable, Marked, marks_after, all_claimable}
use Rattle.blocks.proofs.Claims.{apart-all, apart-each, apart-empty, marked-none, marked_more, apart-then, claim-apart}

module _ (a : Arena) (B : ℕ → Block) where
  marks-are : (n : ℕ) → ((k : ℕ) → k < n → block_claimable a (marks_after a B k) (B k) ≡ true) → Marked a B n (marks_after a B n)
  unfolding marks_after
  marks-are zero h = marked-none a B
  marks-are (suc n) h =
      rw add-one at (marked_more a B n (marks_after a B n) (marks-are n (λ k l. h k (omega arith))) (h n (omega arith)))

  claim-at : (n : ℕ) → all_claimable a B n ≡ true → (k : ℕ) → k < n → block_claimable a (marks_after a B k) (B k) ≡ true
  unfolding all_claimable
  claim-at n e k h = all_below-at (λ (i : ℕ). block_claimable a (marks_after a B i) (B i)) n e k h

  -- owners from n on have no list
  pub decided-rule : (n : ℕ) → Shaped a → ((k : ℕ) → n ≤ k → ((B k).len ≡ 0) × ((B k).start ≤ a.used)) → all_claimable a B n ≡ true → BlocksApart a B
  decided-rule n sh rest e = apart-all a B sh (λ k. go k (dec_lt k n))
    where
      go : (k : ℕ) → Dec (k < n) → ApartBefore a B k
      go k (yes h) = apart-then a B k (marks_after a B k) (marks-are k (λ i l. claim-at n e i (omega arith))) (claim-at n e k h)
      go k (no h) = apart-empty a B k (rest k (omega arith)).0 (rest k (omega arith)).1

  pub rule-decided : (n : ℕ) → BlocksApart a B → all_claimable a B n ≡ true
  unfolding all_claimable
  rule-decided n rule = at-all_below (λ (k : ℕ). block_claimable a (marks_after a B k) (B k)) n (λ k h. each k)
    where
      each : (k : ℕ) → block_claimable a (marks_after a B k) (B k) ≡ true
      each k = below (suc k) k (omega arith)
        where
          below : (m j : ℕ) → j < m → block_claimable a (marks_after a B j) (B j) ≡ true
          below zero j h = absurd (omega arith)
          below (suc m) j h = claim-apart a B j (marks_after a B j) (marks-are j (λ i l. below m i (omega arith))) (apart-each a B j rule)
