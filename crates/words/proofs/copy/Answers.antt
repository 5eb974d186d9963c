-- `words::copy` meets its contract: up, down, or not at all.
-- Assumes nothing.
use Rattle.std.proofs.Common.{◌≡◌, List, ℕ, ◌+◌, ◌≤◌, length, sym}
use Rattle.words.specs.Parts.{part, put}
use Rattle.words.proofs.Parts.{put_same}
use Rattle.words.proofs.copy.Goals as goal

stays : (l : List ℕ) (from n to : ℕ) → from + n ≤ length l → from ≡ to → l ≡ put to (part from n l) l
stays l from n to h e = rw (sym e) (sym (put_same l from n h))

pub returns-else-from-to-2 : goal.returns-else-from-to-2
returns-else-from-to-2 c = stays _ _ _ _ c.requires.0 c.if-from-to-2.false
