-- `words::write_reversed` meets its contract. The words from left on are written, the last first.
-- Assumes nothing.
use Rattle.std.proofs.Common.{◌≡◌, List, [], ◌∷◌, ◌++◌, ℕ, zero, suc, ◌+◌, ◌-◌, ◌≤◌, ◌<◌, length, get_or, set, drop, reverse, refl, sym, ap, ◌∙◌, arith}
use mathlib.Core.List.{reverse-cons}
use lib.ListN.{length-drop, length-reverse}
use lib.Seq.{drop-cons}
use Rattle.words.specs.Parts.{put}
use Rattle.words.proofs.Parts.{put-nil, set-put-after}
use Rattle.words.proofs.write_reversed.Goals as goal

none-left : (bs : List ℕ) → drop (length bs) bs ≡ []
none-left [] = refl
none-left (x ∷ bs) = none-left bs

first : (l bs : List ℕ) (at : ℕ) → l ≡ put at (reverse (drop (length bs) bs)) l
first l bs at = sym (ap (λ (vs : List ℕ). put at (reverse vs) l) (none-left bs) ∙ put-nil l at [])

turn : (l bs : List ℕ) (at k j i : ℕ) → 0 < k → k ≤ length bs → at + length bs ≤ length l → j ≡ k - 1 → i ≡ length bs - 1 - j
    → set (put at (reverse (drop k bs)) l) (at + i) (get_or bs j 0) ≡ put at (reverse (drop j bs)) l
turn l bs at zero j i p q f e g = absurd (omega arith)
turn l bs at (suc k) j i p q f e g =
    let a : j ≡ k = omega arith in
    let vs : List ℕ = reverse (drop (suc k) bs) in
    let n : length vs ≡ i = length-reverse (drop (suc k) bs) ∙ length-drop (suc k) bs ∙ omega arith in
    let step : reverse (drop k bs) ≡ vs ++ (get_or bs k 0 ∷ []) = ap reverse (drop-cons bs k 0 (omega arith)) ∙ reverse-cons (get_or bs k 0) (drop (suc k) bs) in
    rw a
    (ap (λ (m : ℕ). set (put at vs l) (at + m) (get_or bs k 0)) (sym n)
    ∙ set-put-after l at vs (get_or bs k 0) (omega arith)
    ∙ ap (λ (r : List ℕ). put at r l) (sym step))

pub loop-left-init : goal.loop-left-init
loop-left-init c = first c.args.words.now c.args.from.now c.args.at

pub loop-left-preserved : goal.loop-left-preserved
loop-left-preserved c =
    rw c.loop-left.invariant (turn _ c.args.from.now _ _ _ _ (omega arith) (omega arith) c.requires refl refl)
