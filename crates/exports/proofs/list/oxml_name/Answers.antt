-- `exports::list::oxml_name` meets its contract.
-- Assumes nothing.
use mathlib.Core.Path.{refl}
use lib.ListN.{length}
use Rattle.model.specs.Calls.{name_of}
use Rattle.encoding.specs.Given.{name_words}
use Rattle.exports.specs.Contract.{as_name}
use Rattle.encoding.proofs.Records.{whole}
use Rattle.exports.proofs.Beyond.{name-told}
use Rattle.exports.proofs.Reading.{tells-name, read_short, shows}
use Rattle.exports.proofs.list.oxml_name.Goals as goal

pub give_name-requires : goal.give_name-requires
give_name-requires c =
    (whole c.args.document.now (length c.args.answer.now) 1 _ _ c.lent_record.ensures c.in-Some.is).enough

pub returns-in_default : goal.returns-in_default
returns-in_default c =
    rw c.refused.ensures (read_short (name_of c.args.number) 1 (as_name c.args.number) c.args.document.now c.args.memory.now c.args.answer.now _ c.lent_record.ensures c.in_default.is)

pub returns : goal.returns
returns c =
    shows (name_of c.args.number) 1 (as_name c.args.number) c.args.document.now c.args.memory.now c.args.answer.now c.in-Some.d (whole c.args.document.now (length c.args.answer.now) 1 _ _ c.lent_record.ensures c.in-Some.is) (name_words c.name.result) _ _ _
    (tells-name c.in-Some.d c.args.memory.now c.args.number c.name.result (name-told c.in-Some.d c.args.memory.now _ c.args.number c.name_id.ensures _ c.name.ensures))
    refl
    c.give_name.ensures
