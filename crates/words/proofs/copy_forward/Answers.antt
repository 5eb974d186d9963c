-- `words::copy_forward` meets its contract. A turn is `copy-turn`.
-- Assumes nothing.
use Rattle.std.proofs.Common.{◌≡◌, ◌⊎◌, List, [], ℕ, ◌+◌, ◌≤◌, ◌<◌, length, get_or, set, sym, ap, ◌∙◌, add-one, arith}
use mathlib.Core.Logic.{⊎_elim, inl, inr}
use Rattle.words.specs.Parts.{part, put}
use Rattle.words.proofs.Parts.{part_none, put-nil, copy-turn}
use Rattle.words.proofs.copy_forward.Goals as goal

turn : (l : List ℕ) (from n to k : ℕ) → (to ≤ from) ⊎ (from + n ≤ to) → k < n → from + n ≤ length l → to + n ≤ length l
    → set (put to (part from k l) l) (to + k) (get_or (put to (part from k l) l) (from + k) 0) ≡ put to (part from (k + 1) l) l
turn l from n to k side h hf ht =
    let s : (to ≤ from) ⊎ (from + k < to) = ⊎_elim (λ w. inl w) (λ w. inr (omega arith)) side in
    rw (add-one k) (copy-turn l from to k 0 s (omega arith) (omega arith))

pub loop-k-init : goal.loop-k-init
loop-k-init c = sym (ap (λ (r : List ℕ). put c.args.to r c.args.words.now) (part_none c.args.words.now c.args.from) ∙ put-nil c.args.words.now c.args.to [])

pub loop-k-preserved : goal.loop-k-preserved
loop-k-preserved c =
    let pre = c.requires in
    rw c.loop-k.invariant (turn _ _ _ _ _ pre.fact (omega arith) pre.n_in_bounds.0 pre.n_in_bounds.1)
