-- `blocks::move_block_with` meets its contract: the block is copied to the end, and the id put there.
-- Assumes nothing.
use mathlib.Core.Path.{◌≡◌, sym, ap, ◌∙◌}
use mathlib.Core.List.{List}
use Prim.Native.Nat.{ℕ, ◌+◌, ◌≤◌}
use native.Mathlib.Omega.{arith}
use lib.ListN.{length, set, replicate}
use Rattle.words.specs.Parts.{part, put}
use Rattle.words.specs.Lists.{insert_at}
use Rattle.words.proofs.Parts.{put-put, part-put-same, length_part}
use Rattle.words.proofs.Lists.{length-insert_at}
use Rattle.blocks.proofs.move_block_with.Goals as goal

-- nothing of the copy is left once the id is in it
opened : (l m o : List ℕ) (s n used k id : ℕ) → s + n ≤ length l → used + n ≤ length l → m ≡ put used (part s n l) l → o ≡ put used (insert_at k id (part used n m)) m
    → o ≡ put used (insert_at k id (part s n l)) l
opened l m o s n used k id hs hu e q =
    let b : List ℕ = part s n l in
    let ln : length b ≡ n = length_part l s n hs in
    let same : part used n m ≡ b =
    ap (part used n) e ∙ ap (λ (i : ℕ). part used i (put used b l)) (sym ln) ∙ part-put-same l used b (omega arith) in
    q ∙ ap (λ (r : List ℕ). put used (insert_at k id r) m) same
    ∙ ap (put used (insert_at k id b)) e
    ∙ put-put l used (insert_at k id b) b (omega arith) (omega (arith, length-insert_at k id b))

recorded : (l m o : List ℕ) (i j n v : ℕ) → l ≡ m → o ≡ put j (replicate n 0) (set l i 0) → set o j v ≡ set (put j (replicate n 0) (set m i 0)) j v
recorded l m o i j n v e q = rw (q, e)

pub returns : goal.returns
returns c =
    recorded _ _ _ (c.args.limit + c.args.block.start) _ c.args.cap _
    (opened _ _ _ _ _ _ _ _ (omega (arith, c.requires.arena_len, c.requires.at_le_len)) (omega (arith, c.requires.arena_len, c.requires.at_le_len)) c.copy.ensures c.insert_in_place.ensures)
    c.fill.ensures
