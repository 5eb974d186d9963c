-- `exports::read::oxml_parent` meets its contract.
-- Assumes nothing.
use lib.ListN.{length}
use Prim.Native.Nat.{ℕ}
use Rattle.model.specs.Calls.{parent-of}
use Rattle.encoding.specs.Given.{node_words}
use Rattle.exports.specs.Contract.{as_node}
use Rattle.encoding.proofs.Records.{whole}
use Rattle.exports.proofs.Reading.{tells-node, read_word, read_short, shows}
use Rattle.exports.proofs.read.oxml_parent.Goals as goal

pub give_node-requires : goal.give_node-requires
give_node-requires c =
    (whole c.args.document.now (length c.args.answer.now) 2 _ _ c.lent_record.ensures c.in-Some.is).enough

pub returns-in_default : goal.returns-in_default
returns-in_default c =
    rw c.refused.ensures (read_short (parent-of c.args.id) 2 as_node c.args.document.now c.args.memory.now c.args.answer.now _ c.lent_record.ensures c.in_default.is)

pub returns : goal.returns
returns c =
    shows (parent-of c.args.id) 2 as_node c.args.document.now c.args.memory.now c.args.answer.now c.in-Some.d (whole c.args.document.now (length c.args.answer.now) 2 _ _ c.lent_record.ensures c.in-Some.is) (node_words c.parent.result) _ _ _
    (tells-node c.in-Some.d c.args.memory.now c.parent.result)
    (read_word (λ (h : ℕ). parent-of h) c.args.id _ c.from.ensures _ _ _ c.parent.ensures)
    c.give_node.ensures
