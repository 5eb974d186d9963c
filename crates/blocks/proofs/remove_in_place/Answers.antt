-- `blocks::remove_in_place` meets its contract: a copy down by one is the block without the id.
-- Assumes nothing.
use mathlib.Core.Path.{◌≡◌, sym, ap, ◌∙◌}
use mathlib.Core.List.{List, ◌++◌}
use Prim.Native.Nat.{ℕ, suc, ◌+◌, ◌-◌, ◌≤◌, ◌<◌}
use native.Mathlib.Omega.{arith}
use lib.ListN.{length}
use Rattle.words.specs.Parts.{part, put}
use Rattle.words.specs.Lists.{remove_at}
use Rattle.words.proofs.Parts.{put_front}
use Rattle.words.proofs.Lists.{remove_at-part}
use Rattle.blocks.proofs.remove_in_place.Goals as goal

closed : (l : List ℕ) (s n k : ℕ) → k < n → s + n ≤ length l → put (s + k) (part (s + k + 1) (n - k - 1) l) l ≡ put s (remove_at k (part s n l)) l
closed l s n k h f =
    let e : n ≡ suc k + (n - k - 1) = omega arith in
    let g : s + k + 1 ≡ s + suc k = omega arith in
    put_front l k (part (s + k + 1) (n - k - 1) l) s (omega arith)
    ∙ ap (λ (i : ℕ). put s (part s k l ++ part i (n - k - 1) l) l) g
    ∙ ap (λ (r : List ℕ). put s r l) (sym (remove_at-part l s k (n - k - 1)))
    ∙ ap (λ (i : ℕ). put s (remove_at k (part s i l)) l) (sym e)

pub returns : goal.returns
returns c =
    let a = c.args in
    c.copy.ensures ∙ closed _ _ _ _ (omega arith) (omega arith)
