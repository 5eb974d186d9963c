-- `exports::read::oxml_order_key` meets its contract.
-- Assumes nothing.
use lib.ListN.{length}
use Prim.Native.Nat.{ℕ}
use Rattle.model.specs.Calls.{order-key}
use Rattle.encoding.specs.Given.{key_words}
use Rattle.exports.specs.Contract.{as_key}
use Rattle.encoding.proofs.Records.{whole}
use Rattle.exports.proofs.Reading.{tells-key, read_word, read_short, shows}
use Rattle.exports.proofs.read.oxml_order_key.Goals as goal

pub give_key-requires : goal.give_key-requires
give_key-requires c =
    (whole c.args.document.now (length c.args.answer.now) 2 _ _ c.lent_record.ensures c.in-Some.is).enough

pub returns-in_default : goal.returns-in_default
returns-in_default c =
    rw c.refused.ensures (read_short (order-key c.args.id) 2 as_key c.args.document.now c.args.memory.now c.args.answer.now _ c.lent_record.ensures c.in_default.is)

pub returns : goal.returns
returns c =
    shows (order-key c.args.id) 2 as_key c.args.document.now c.args.memory.now c.args.answer.now c.in-Some.d (whole c.args.document.now (length c.args.answer.now) 2 _ _ c.lent_record.ensures c.in-Some.is) (key_words c.order_key.result) _ _ _
    (tells-key c.in-Some.d c.args.memory.now c.order_key.result)
    (read_word (λ (h : ℕ). order-key h) c.args.id _ c.from.ensures _ _ _ c.order_key.ensures)
    c.give_key.ensures
