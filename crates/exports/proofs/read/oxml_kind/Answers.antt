-- `exports::read::oxml_kind` meets its contract.
-- Assumes nothing.
use lib.ListN.{length}
use Prim.Native.Nat.{ℕ}
use Rattle.model.specs.Calls.{kind-of}
use Rattle.encoding.specs.Given.{kind_words}
use Rattle.exports.specs.Contract.{as_kind}
use Rattle.encoding.proofs.Records.{whole}
use Rattle.exports.proofs.Reading.{tells-kind, read_word, read_short, shows}
use Rattle.exports.proofs.read.oxml_kind.Goals as goal

pub give_kind-requires : goal.give_kind-requires
give_kind-requires c =
    (whole c.args.document.now (length c.args.answer.now) 8 _ _ c.lent_record.ensures c.in-Some.is).enough

pub returns-in_default : goal.returns-in_default
returns-in_default c =
    rw c.refused.ensures (read_short (kind-of c.args.id) 8 as_kind c.args.document.now c.args.memory.now c.args.answer.now _ c.lent_record.ensures c.in_default.is)

pub returns : goal.returns
returns c =
    shows (kind-of c.args.id) 8 as_kind c.args.document.now c.args.memory.now c.args.answer.now c.in-Some.d (whole c.args.document.now (length c.args.answer.now) 8 _ _ c.lent_record.ensures c.in-Some.is) (kind_words c.kind.result) _ _ _
    (tells-kind c.in-Some.d c.args.memory.now c.kind.result)
    (read_word (λ (h : ℕ). kind-of h) c.args.id _ c.from.ensures _ _ _ c.kind.ensures)
    c.give_kind.ensures
