-- `texts::storing::move_ends` meets its contract.
-- Assumes nothing.
use Rattle.std.proofs.Common.{◌≡◌, List, ℕ, ◌+◌, ◌≤◌, ◌<◌, ◌++◌, length, get_or, set, map, take, drop, sym, ◌∙◌, arith}
use Rattle.std.proofs.lemmas.List.Edits.{map_over_more}
use Rattle.std.proofs.lemmas.Grind.{get_or_default_zero}
use mathlib.Core.List.{append-nil}
use lib.ListN.{drop_of_length-le}
use lib.Seq.{take_all}
use Rattle.words.specs.Ends.{moved_end}
use Rattle.texts.proofs.storing.move_ends.Goals as goal

done : (f : ℕ → ℕ) (ys xs : List ℕ) (k : ℕ) → length xs ≤ k → ys ≡ map f (take k xs) ++ drop k xs → ys ≡ map f xs
done f ys xs k b inv = inv ∙ rw (take_all k xs b, drop_of_length-le xs {i = k} b) (append-nil (map f xs))

turn : (f : ℕ → ℕ) (xs ys : List ℕ) (k : ℕ) → k < length ys → length ys ≡ length xs → ys ≡ map f (take k xs) ++ drop k xs → set ys k (f (get_or ys k 0)) ≡ map f (take (k + 1) xs) ++ drop (k + 1) xs
turn f xs ys k h e inv = map_over_more f xs ys k (get_or ys k 0) (omega arith) inv (sym (get_or_default_zero ys k (get_or ys k 0) h))

pub loop-end-preserved : goal.loop-end-preserved
unfolding moved_end
loop-end-preserved c = turn (moved_end c.args.old c.args.len) _ _ _ (omega arith) (omega arith) c.loop-end.invariant

pub returns : goal.returns
returns c = done (moved_end c.args.old c.args.len) _ _ _ c.loop-end-test.false c.loop-end.invariant
