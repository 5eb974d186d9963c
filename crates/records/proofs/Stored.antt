-- What the reader and the writer of the twelve words cite.
-- Assumes nothing.
use mathlib.Core.Path.{◌≡◌, refl, ◌∙◌}
use mathlib.Core.List.{List, append-nil}
use Prim.Native.Nat.{ℕ, ◌+◌}
use native.Mathlib.Omega.{arith}
use lib.ListN.{length, drop_of_length-le}
use lib.Seq.{sets, sets-eq}
use Rattle.records.specs.declared.NodeRecord.{NodeRecord}
use Rattle.records.specs.Records.{read_record, record_words}

-- twelve stores over twelve words
pub stored : (w vs : List ℕ) → length w ≡ length vs → sets w 0 vs ≡ vs
stored w vs h = sets-eq vs w 0 (omega arith) ∙ rw (drop_of_length-le w {i = 0 + length vs} (omega arith)) (append-nil vs)

-- they are read as they were written
pub read_record-record_words : (r : NodeRecord) → read_record (record_words r) ≡ r
read_record-record_words r = refl
