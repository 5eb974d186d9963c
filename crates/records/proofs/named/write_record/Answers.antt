-- `records::named::write_record` meets its contract. Twelve stores over twelve words leave what was stored.
-- Assumes nothing.
use Rattle.records.proofs.Stored.{stored}
use Rattle.records.specs.Records.{record_words}
use lib.ListN.{length-set}
use native.Mathlib.Omega.{arith}
use Rattle.records.proofs.named.write_record.Goals as goal

pub bounds-words-4 : goal.bounds-words-4
bounds-words-4 c = simp length-set (omega arith)

pub bounds-words-5 : goal.bounds-words-5
bounds-words-5 c = simp length-set (omega arith)

pub bounds-words-6 : goal.bounds-words-6
bounds-words-6 c = simp length-set (omega arith)

pub bounds-words-7 : goal.bounds-words-7
bounds-words-7 c = simp length-set (omega arith)

pub bounds-words-8 : goal.bounds-words-8
bounds-words-8 c = simp length-set (omega arith)

pub bounds-words-9 : goal.bounds-words-9
bounds-words-9 c = simp length-set (omega arith)

pub bounds-words-10 : goal.bounds-words-10
bounds-words-10 c = simp length-set (omega arith)

pub bounds-words-11 : goal.bounds-words-11
bounds-words-11 c = simp length-set (omega arith)

pub shape_of-words : goal.shape_of-words
shape_of-words c = simp length-set

pub returns : goal.returns
returns c = stored c.args.words.now (record_words c.args.r) (omega arith)
