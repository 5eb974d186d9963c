-- `exports::show::oxml_local_bytes` meets its contract.
-- Assumes nothing.
use Rattle.layout.specs.declared.Document.{Document}
use Rattle.encoding.specs.Records.{document_of}
use Rattle.reading.specs.Answers.{name_bytes}
use Rattle.encoding.proofs.Records.{whole}
use Rattle.exports.proofs.Beyond.{part-told}
use Rattle.exports.proofs.Showing.{shows-none, shows-part}
use Rattle.exports.proofs.show.oxml_local_bytes.Goals as goal

pub returns-in_default : goal.returns-in_default
returns-in_default c =
    shows-none c.args.document.now (name_bytes (document_of c.args.document.now) c.args.memory.now c.args.number 1) c.args.out.now _ c.lent_record.ensures c.in_default.is

pub returns : goal.returns
returns c =
    shows-part c.args.document.now c.in-Some.d (whole c.args.document.now 0 0 _ _ c.lent_record.ensures c.in-Some.is) (λ (d : Document). name_bytes d c.args.memory.now c.args.number 1) _ c.args.out.now _ _
    (part-told c.in-Some.d c.args.memory.now _ c.args.number 1 c.name_id.ensures _ c.local_bytes.ensures) c.give.ensures
