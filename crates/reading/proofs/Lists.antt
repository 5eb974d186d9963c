-- Laws of parts that `words` has not.
-- Assumes nothing.
use mathlib.Core.Path.{◌≡◌, sym, ap, ◌∙◌}
use mathlib.Core.List.{List, ◌++◌}
use Prim.Native.Nat.{ℕ, ◌+◌, ◌≤◌}
use native.Mathlib.Nat.{zero-add}
use native.Mathlib.Omega.{arith}
use lib.ListN.{length, length-append}
use Rattle.words.specs.Parts.{put}
use Rattle.words.proofs.Parts.{length-put, put_front, put-put, part-put-same}

module _ {A : Type 0} (l : List A) where
  -- what is put behind what was put at the front
  pub put-append : (vs ws : List A) → length vs + length ws ≤ length l → put (length vs) ws (put 0 vs l) ≡ put 0 (vs ++ ws) l
  put-append vs ws h =
      let m = put 0 vs l in
      let n : length m ≡ length l = length-put l 0 vs (omega arith) in
      ap (λ (i : ℕ). put i ws m) (sym (zero-add (length vs)))
      ∙ put_front m (length vs) ws 0 (omega arith)
      ∙ ap (λ (r : List A). put 0 (r ++ ws) m) (part-put-same l 0 vs (omega arith))
      ∙ put-put l 0 (vs ++ ws) vs (omega arith) (omega (arith, length-append vs ws))
