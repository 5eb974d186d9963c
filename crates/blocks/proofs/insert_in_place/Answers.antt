-- `blocks::insert_in_place` meets its contract: a copy up by one leaves the place that the id is put in.
-- Assumes nothing.
use mathlib.Core.Path.{◌≡◌, sym, ap, ◌∙◌}
use mathlib.Core.List.{List, ◌∷◌}
use Prim.Native.Nat.{ℕ, ◌+◌, ◌-◌, ◌≤◌, ◌<◌}
use native.Mathlib.Numerals.{add-one}
use native.Mathlib.Omega.{arith}
use lib.ListN.{length, set}
use Rattle.words.specs.Parts.{part, put}
use Rattle.words.specs.Lists.{insert_at}
use Rattle.words.proofs.Parts.{length_part, put_front, set-put-before}
use Rattle.words.proofs.Lists.{insert_at-part}
use Rattle.blocks.proofs.insert_in_place.Goals as goal

-- the id put in the list that the copy left
stored : (l : List ℕ) (s n k id : ℕ) → k ≤ n → s + n < length l → set (put (s + k + 1) (part (s + k) (n - k) l) l) (s + k) id ≡ put s (insert_at k id (part s n l)) l
stored l s n k id h f =
    let g : n ≡ k + (n - k) = omega arith in
    let w : length (part (s + k) (n - k) l) ≡ n - k = length_part l (s + k) (n - k) (omega arith) in
    rw (add-one (s + k))
    (set-put-before l (s + k) (part (s + k) (n - k) l) id (omega arith)
    ∙ put_front l k (id ∷ part (s + k) (n - k) l) s (omega arith)
    ∙ ap (λ (r : List ℕ). put s r l) (sym (insert_at-part l s k (n - k) id))
    ∙ ap (λ (i : ℕ). put s (insert_at k id (part s i l)) l) (sym g))

pub returns : goal.returns
returns c =
    let a = c.args in
    ap (λ (l : List ℕ). set l (a.block.start + a.at) a.id) c.copy.ensures
    ∙ stored _ _ _ _ _ (omega arith) (omega arith)
