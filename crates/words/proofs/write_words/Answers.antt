-- `words::write_words` meets its contract. After k turns the first k words are written.
-- Assumes nothing.
use Rattle.std.proofs.Common.{◌≡◌, List, [], ℕ, ◌+◌, ◌≤◌, ◌<◌, length, get_or, set, take, sym, ap, ◌∙◌, add-one, arith}
use lib.Seq.{take-suc, length-take-le}
use Rattle.words.specs.Parts.{put}
use Rattle.words.proofs.Parts.{put-nil, set-put-after}
use Rattle.words.proofs.write_words.Goals as goal

turn : (l bs : List ℕ) (at k : ℕ) → k < length bs → at + length bs ≤ length l → set (put at (take k bs) l) (at + k) (get_or bs k 0) ≡ put at (take (k + 1) bs) l
turn l bs at k h f =
    let q : length (take k bs) ≡ k = length-take-le k bs (omega arith) in
    rw add-one
    (ap (λ (i : ℕ). set (put at (take k bs) l) (at + i) (get_or bs k 0)) (sym q)
    ∙ set-put-after l at (take k bs) (get_or bs k 0) (omega arith)
    ∙ ap (λ (r : List ℕ). put at r l) (sym (take-suc bs k 0 h)))

pub loop-k-init : goal.loop-k-init
loop-k-init c = sym (put-nil _ _ [])

pub loop-k-preserved : goal.loop-k-preserved
loop-k-preserved c = rw c.loop-k.invariant (turn _ c.args.from.now _ _ (omega arith) c.requires)
