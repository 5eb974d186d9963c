-- What the readers and writers of the lent part cite.
-- Assumes nothing.
use Rattle.std.proofs.Common.{◌≡◌, ℕ, ◌+◌, ◌-◌, List, ◌++◌, take, drop, refl, ap, ◌∙◌}
use Rattle.words.proofs.Parts.{lent, returned}
use Rattle.records.specs.declared.NodeRecord.{NodeRecord}
use Rattle.records.specs.Records.{read_record, record_words}
use Rattle.slots.specs.Regions.{record_start, record_at, put_record}

-- a record's part, lent and returned
pub record-read : (n : ℕ) (w : List ℕ) (s : ℕ) (r : NodeRecord) → r ≡ read_record (take (record_start n s + 12 - record_start n s) (drop (record_start n s) w)) → r ≡ record_at n w s
unfolding record_at
record-read n w s r e = e ∙ ap read_record (lent w (record_start n s) 12)

pub record-written : (n : ℕ) (w ys : List ℕ) (s : ℕ) (r : NodeRecord) → ys ≡ record_words r
    → take (record_start n s) w ++ (ys ++ drop (record_start n s + 12 - record_start n s) (drop (record_start n s) w)) ≡ put_record n w s r
unfolding put_record
record-written n w ys s r e = rw e (returned w (record_words r) (record_start n s) 12 refl)
