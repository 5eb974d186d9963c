-- What the copies of blocks, made in the capacity words, are in the model.
-- Assumes nothing.
use mathlib.Core.Path.{◌≡◌, sym, ap, ◌∙◌}
use mathlib.Core.List.{List, [], ◌++◌}
use Prim.Native.Nat.{ℕ, ◌+◌, ◌≤◌}
use native.Mathlib.Omega.{arith}
use lib.ListN.{length, take, drop, replicate, length-replicate, length-drop}
use Rattle.words.specs.Parts.{part, put}
use Rattle.words.proofs.Parts.{length_part, length-put, part-add, part-put-same, part-put-before, part_none, put-nil, put_all, take-put-before, put_right}
use Rattle.blocks.specs.Arena.{arena_of, arena_words}
use Rattle.blocks.specs.Compact.{cleared, copied, BlockCopied}
use Rattle.blocks.proofs.Lists.{put-append}
use Rattle.blocks.proofs.Decoded.{decoded}
use Rattle.blocks.proofs.Halves.{ids-length, part-ids, put-ids}

cleared-right : (x y : List ℕ) (n : ℕ) → length x ≡ n → length y ≡ n → put n (replicate n 0) (x ++ y) ≡ x ++ replicate n 0
cleared-right x y n e f =
    let z : n ≡ length x + 0 = omega arith in
    ap (λ (p : ℕ). put p (replicate n 0) (x ++ y)) z
    ∙ put_right x y 0 (replicate n 0)
    ∙ ap (λ (r : List ℕ). x ++ r) (put_all y (replicate n 0) (length-replicate n 0 ∙ sym f))

module _ (w : List ℕ) (limit : ℕ) (twice : length w ≡ limit + limit) where
  half : limit ≤ length w
  half = omega arith

  -- before the first copy
  pub copied_none : (used : ℕ) → copied limit 0 w ≡ cleared (arena_of limit used w)
  unfolding copied
  copied_none used = λ i. record {
    ids = (ap (λ (r : List ℕ). put 0 r (take limit w)) (part_none w limit) ∙ put-nil (take limit w) 0 []) i;
    caps = ap (λ (n : ℕ). replicate n 0) (sym (ids-length w limit half)) i;
    used = 0;
  }

  module _ (used start len : ℕ) (inb : start + len ≤ limit) (fit : used + len ≤ limit) (w' : List ℕ) (e : w' ≡ put (limit + used) (part start len w) w) where
    block-length : length (part start len w) ≡ len
    block-length = length_part w start len (omega arith)

    copies_length : length (part limit used w) ≡ used
    copies_length = length_part w limit used (omega arith)

    ids-kept : take limit w' ≡ take limit w
    ids-kept = ap (take limit) e ∙ take-put-before w (limit + used) (part start len w) limit (omega arith) (omega arith)

    -- the copies with the new one
    more : part limit (used + len) w' ≡ part limit used w ++ part start len (take limit w)
    more =
        part-add w' limit used len
        ∙ ap (λ (r : List ℕ). part limit used r ++ part (limit + used) len r) e
        ∙ ap (λ (r : List ℕ). r ++ part (limit + used) len (put (limit + used) (part start len w) w))
        (part-put-before w (limit + used) (part start len w) limit used (omega arith) (omega arith))
        ∙ ap (λ (n : ℕ). part limit used w ++ part (limit + used) n (put (limit + used) (part start len w) w)) (sym block-length)
        ∙ ap (λ (r : List ℕ). part limit used w ++ r) (part-put-same w (limit + used) (part start len w) (omega arith))
        ∙ ap (λ (r : List ℕ). part limit used w ++ r) (part-ids w limit half start len inb)

    size : length (part start len (take limit w)) ≡ len
    size = length_part (take limit w) start len (omega (arith, ids-length w limit half))

    new-ids : put 0 (part limit (used + len) w') (take limit w') ≡ put used (part start len (take limit w)) (put 0 (part limit used w) (take limit w))
    new-ids =
        let z : 0 + length (part limit used w) ≡ used = omega (arith, copies_length) in
        ap (put 0 (part limit (used + len) w')) ids-kept
        ∙ ap (λ (r : List ℕ). put 0 r (take limit w)) more
        ∙ put-append (take limit w) (part limit used w) (part start len (take limit w)) 0 (omega (arith, copies_length, size, ids-length w limit half))
        ∙ ap (λ (p : ℕ). put p (part start len (take limit w)) (put 0 (part limit used w) (take limit w))) z

    pub block-copied : BlockCopied w w' limit used start len
    unfolding copied
    block-copied =
        record {
          ids = ids-kept;
          copies = λ i. record { ids = new-ids i; caps = replicate limit 0; used = used + sym size i };
        }

  -- the copies replace the ids within the limit
  pub copied-limit : (used : ℕ) → used ≤ limit → length (copied limit used w).ids ≡ limit
  unfolding copied
  copied-limit used h =
      length-put (take limit w) 0 (part limit used w) (omega (arith, ids-length w limit half, length_part w limit used (omega arith)))
      ∙ ids-length w limit half

  pub decoded-copied : (used : ℕ) → used ≤ limit → arena_of limit used (arena_words (copied limit used w)) ≡ copied limit used w
  unfolding copied
  decoded-copied used h = decoded (copied limit used w) limit (copied-limit used h)

  -- the copies put over the ids, and the capacities cleared
  pub blocks-replaced : (used : ℕ) (w₁ w₂ : List ℕ) → used ≤ limit → w₁ ≡ put 0 (part limit used w) w → w₂ ≡ put limit (replicate limit 0) w₁ → w₂ ≡ arena_words (copied limit used w)
  unfolding copied
  blocks-replaced used w₁ w₂ h e q =
      let n : length (part limit used w) ≡ used = length_part w limit used (omega arith) in
      q
      ∙ ap (put limit (replicate limit 0)) (e ∙ put-ids w limit half 0 (part limit used w) (omega arith))
      ∙ cleared-right (put 0 (part limit used w) (take limit w)) (drop limit w) limit (copied-limit used h)
      (length-drop limit w ∙ omega arith)
