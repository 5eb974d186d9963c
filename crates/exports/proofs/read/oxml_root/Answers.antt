-- `exports::read::oxml_root` meets its contract.
-- Assumes nothing.
use lib.ListN.{length}
use Rattle.model.specs.Calls.{root-of}
use Rattle.encoding.specs.Given.{root_words}
use Rattle.exports.specs.Contract.{as_made}
use Rattle.encoding.proofs.Records.{whole}
use Rattle.exports.proofs.Reading.{tells-root, read_short, shows}
use Rattle.exports.proofs.read.oxml_root.Goals as goal

pub give_root-requires : goal.give_root-requires
give_root-requires c =
    (whole c.args.document.now (length c.args.answer.now) 1 _ _ c.lent_record.ensures c.in-Some.is).enough

pub returns-in_default : goal.returns-in_default
returns-in_default c =
    rw c.refused.ensures (read_short root-of 1 as_made c.args.document.now c.args.memory.now c.args.answer.now _ c.lent_record.ensures c.in_default.is)

pub returns : goal.returns
returns c =
    shows root-of 1 as_made c.args.document.now c.args.memory.now c.args.answer.now c.in-Some.d (whole c.args.document.now (length c.args.answer.now) 1 _ _ c.lent_record.ensures c.in-Some.is) (root_words c.root.result) _ _ _
    (tells-root c.in-Some.d c.args.memory.now c.root.result)
    c.root.ensures
    c.give_root.ensures
